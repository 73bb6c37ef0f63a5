-- Segments S and T of document 01, box by box, as lists of bytes. Where document 01 leaves a byte open, the major brand is `msdh`, and
-- minor version, flags, reserved and the bytes of `mdat` are 0; T's SAP word is that of S.
use Rattle.std.specs.Prelude.{ℕ, ◌+◌, ◌*◌, ◌/◌, ◌%◌, List, [], ◌∷◌, ◌++◌}
use Rattle.segment.specs.Constants.{type_bit, styp, sidx, moof, traf, tfhd, tfdt, mdat}

-- the brand wanted
abbrev pub msdh : ℕ
msdh = 0x6d_73_64_68

-- a number as two bytes, and as four, the highest first
unfoldable pub bytes2 : ℕ → List ℕ
bytes2 n = n / 256 % 256 ∷ n % 256 ∷ []

unfoldable pub bytes4 : ℕ → List ℕ
bytes4 n = n / 16777216 % 256 ∷ n / 65536 % 256 ∷ n / 256 % 256 ∷ n % 256 ∷ []

-- a box: its size with the header, its type, its body
unfoldable pub box : ℕ → ℕ → List ℕ → List ℕ
box size kind body = bytes4 size ++ bytes4 kind ++ body

-- version 0 and flags 0
unfoldable pub plain_version : List ℕ
plain_version = bytes4 0

-- "`styp` 20 bytes listing only `msdh`": major brand, minor version, one compatible brand
unfoldable pub styp_box : List ℕ
styp_box = box 20 styp (bytes4 msdh ++ bytes4 0 ++ bytes4 msdh)

-- "SAP word 2415919104"
abbrev pub sap_word : ℕ
sap_word = 2415919104

-- an entry of an index: type, size, duration, SAP word
unfoldable pub entry : ℕ → ℕ → ℕ → List ℕ
entry kind size duration = bytes4 (type_bit * kind + size) ++ bytes4 duration ++ bytes4 sap_word

-- "`sidx` version 0, [size] bytes, ID 1, timescale [..], time 5000, first offset 0", reserved, count, entries
unfoldable pub sidx_box : ℕ → ℕ → ℕ → List ℕ → List ℕ
sidx_box scale size count entries =
    box size sidx (plain_version ++ bytes4 1 ++ bytes4 scale ++ bytes4 5000 ++ bytes4 0 ++ bytes2 0 ++ bytes2 count ++ entries)

-- "`tfhd` 16, track 1; `tfdt` 16"
unfoldable pub tfhd_box : List ℕ
tfhd_box = box 16 tfhd (plain_version ++ bytes4 1)

unfoldable pub tfdt_box : ℕ → List ℕ
tfdt_box time = box 16 tfdt (plain_version ++ bytes4 time)

-- "each a 48-byte `moof` (one `traf` of 40 ..) and an `mdat` of 12", with a decode time
unfoldable pub leaf : ℕ → List ℕ
leaf time = box 48 moof (box 40 traf (tfhd_box ++ tfdt_box time)) ++ box 12 mdat (bytes4 0)

-- "two entries of size 60, durations 2000 and 3000"; "two leaves"; "Decode times 100 and 2100"
unfoldable pub index_and_leaves : ℕ → ℕ → List ℕ
index_and_leaves scale second = sidx_box scale 56 2 (entry 0 60 2000 ++ entry 0 60 3000) ++ leaf 100 ++ leaf second

-- S, with the second decode time
unfoldable pub s_with : ℕ → List ℕ
s_with second = styp_box ++ index_and_leaves 1000 second

abbrev pub S : List ℕ
S = s_with 2100

-- S, with another timescale
unfoldable pub s_scaled : ℕ → List ℕ
s_scaled scale = styp_box ++ index_and_leaves scale 2100

-- "T: a top `sidx` of 44 bytes with one index entry of size 176, duration 5000, then S's index and leaves", with the entry's duration
unfoldable pub t_with : ℕ → List ℕ
t_with duration = styp_box ++ sidx_box 1000 44 1 (entry 1 176 duration) ++ index_and_leaves 1000 2100

abbrev pub T : List ℕ
T = t_with 5000
