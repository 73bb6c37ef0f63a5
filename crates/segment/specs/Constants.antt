-- The numbers that the rules name.
use Rattle.std.specs.Prelude.{ℕ}

-- the most bytes a segment has
abbrev pub limit : ℕ
limit = 268435456

-- every time is below this: 2 to the power 64
abbrev pub time_limit : ℕ
time_limit = 18446744073709551616

-- the most levels of indexes, with the top one
abbrev pub levels : ℕ
levels = 4

-- the bytes of an entry of an index
abbrev pub entry_bytes : ℕ
entry_bytes = 12

-- the bit of an entry's type, above the 31 bits of its size
abbrev pub type_bit : ℕ
type_bit = 2147483648

-- the most entries an index has
abbrev pub most_entries : ℕ
most_entries = 1024

-- the types of boxes that are known, each the number that its four letters spell
abbrev pub styp : ℕ
styp = 0x73_74_79_70

abbrev pub sidx : ℕ
sidx = 0x73_69_64_78

abbrev pub moof : ℕ
moof = 0x6d_6f_6f_66

abbrev pub traf : ℕ
traf = 0x74_72_61_66

abbrev pub tfhd : ℕ
tfhd = 0x74_66_68_64

abbrev pub tfdt : ℕ
tfdt = 0x74_66_64_74

abbrev pub tfad : ℕ
tfad = 0x74_66_61_64

abbrev pub mdat : ℕ
mdat = 0x6d_64_61_74
