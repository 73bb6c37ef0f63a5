-- Boxes, and what the bodies of `styp`, `sidx`, `tfhd` and `tfdt` say, in the order of document 01's section on boxes.
use Rattle.std.specs.Prelude.{ℕ, zero, suc, ◌+◌, ◌-◌, ◌*◌, ◌/◌, ◌%◌, List, [], ◌∷◌, ◌++◌, Bool, true, false, eqb, ltb, length, take, drop}
use Rattle.std.proofs.Math.Option.{Option, some, none}
use Rattle.basics.specs.Choose.{pick, and_then}
use Rattle.basics.specs.Bytes.{number}
use Rattle.basics.specs.Headers.{short_header, long_header}
use Rattle.segment.specs.Constants.{entry_bytes, type_bit, most_entries, styp, sidx, moof, mdat}

-- an answer where a test holds, and one where it does not
abbrev pub provided : {A : Type 0} → Bool → Option A → Option A
provided test answer = pick test answer none

abbrev pub except : {A : Type 0} → Bool → Option A → Option A
except test answer = pick test none answer

-- a number is in a list
unfoldable pub among : ℕ → List ℕ → Bool
among n [] = false
among n (m ∷ ms) = pick (eqb n m) true (among n ms)

-- Numbers are big-endian: the number that the first bytes spell, and the bytes after them.
pub record Field : Type 0 where
  pub value : ℕ
  pub rest : List ℕ

unfoldable pub field : ℕ → List ℕ → Option Field
field width xs = except (ltb (length xs) width) (some (record { value = number (take width xs); rest = drop width xs }))

-- A box: its type, its size with the header, and its body.
pub record Box : Type 0 where
  pub kind : ℕ
  pub size : ℕ
  pub body : List ℕ

-- Sizes count the header. A box ends within the bytes that it stands in.
unfoldable pub box_of : ℕ → ℕ → ℕ → List ℕ → Option Box
box_of header size kind xs =
    except (ltb size header)
    (except (ltb (length xs) (size - header))
    (some (record { kind = kind; size = size; body = take (size - header) xs })))

-- The box that bytes start with: a 32-bit size and a type. Size 1 means that a 64-bit size follows the type.
unfoldable pub first_box : List ℕ → Option Box
first_box xs =
    and_then (field 4 xs) (λ size.
    and_then (field 4 size.rest) (λ kind.
    pick (eqb size.value 1)
    (and_then (field 8 kind.rest) (λ long. box_of long_header long.value kind.value long.rest))
    (box_of short_header size.value kind.value kind.rest)))

-- A list of boxes: all the bytes, cut into whole boxes.
unfoldable pub cut_boxes : ℕ → List ℕ → Option (List Box)
cut_boxes zero [] = some []
cut_boxes zero (x ∷ xs) = none
cut_boxes (suc k) [] = some []
cut_boxes (suc k) (x ∷ xs) = and_then (first_box (x ∷ xs)) (λ b. and_then (cut_boxes k (drop b.size (x ∷ xs))) (λ bs. some (b ∷ bs)))

abbrev pub boxes : List ℕ → Option (List Box)
boxes xs = cut_boxes (length xs) xs

-- `styp`, `sidx`, `moof`, `mdat` are known at the top level: boxes of other types are skipped there.
abbrev pub top_kinds : List ℕ
top_kinds = styp ∷ sidx ∷ moof ∷ mdat ∷ []

-- the boxes of these types alone, for where the others are skipped
unfoldable pub only : List ℕ → List Box → List Box
only kinds [] = []
only kinds (b ∷ bs) = pick (among b.kind kinds) (b ∷ []) [] ++ only kinds bs

-- no box is of these types
unfoldable pub without : List ℕ → List Box → Bool
without kinds [] = true
without kinds (b ∷ bs) = pick (among b.kind kinds) false (without kinds bs)

-- so many numbers of 32 bits
unfoldable pub words : ℕ → List ℕ → Option (List ℕ)
words zero xs = some []
words (suc n) xs = and_then (field 4 xs) (λ word. and_then (words n word.rest) (λ more. some (word.value ∷ more)))

-- `styp`: major brand, minor version, compatible brands to its end. It says the compatible ones.
unfoldable pub styp_brands : List ℕ → Option (List ℕ)
styp_brands body =
    provided (eqb (length body % 4) 0)
    (and_then (field 4 body) (λ major.
    and_then (field 4 major.rest) (λ minor.
    words (length minor.rest / 4) minor.rest)))

-- An entry of an index: type (1 bit) and size (31), duration (32), SAP word (32). No size is 0.
pub record Entry : Type 0 where
  pub kind : ℕ
  pub size : ℕ
  pub duration : ℕ
  pub sap : ℕ

unfoldable pub entry_of : List ℕ → Option Entry
entry_of xs =
    and_then (field 4 xs) (λ first.
    and_then (field 4 first.rest) (λ duration.
    and_then (field 4 duration.rest) (λ sap.
    except (eqb (first.value % type_bit) 0)
    (some (record { kind = first.value / type_bit; size = first.value % type_bit; duration = duration.value; sap = sap.value })))))

unfoldable pub entries_of : ℕ → List ℕ → Option (List Entry)
entries_of zero xs = some []
entries_of (suc n) xs = and_then (entry_of xs) (λ e. and_then (entries_of n (drop entry_bytes xs)) (λ es. some (e ∷ es)))

-- the sum of entry sizes, and of durations
unfoldable pub sizes : List Entry → ℕ
sizes [] = 0
sizes (e ∷ es) = e.size + sizes es

unfoldable pub durations : List Entry → ℕ
durations [] = 0
durations (e ∷ es) = e.duration + durations es

-- the bytes of a time: 4 in version 0 and 8 in version 1, and there is no other version
unfoldable pub time_bytes : ℕ → Option ℕ
time_bytes version = pick (eqb version 0) (some 4) (provided (eqb version 1) (some 8))

-- `sidx`: version (1 byte), flags (3), reference ID (4), timescale (4), earliest presentation time and first offset (4 each in version 0,
-- 8 in version 1), reserved (2), count (2), then count entries of 12 bytes, and no more. The timescale is not 0; the count is 1 to 1,024.
pub record Index : Type 0 where
  pub id : ℕ
  pub scale : ℕ
  pub time : ℕ
  pub offset : ℕ
  pub entries : List Entry

unfoldable pub sidx_index : List ℕ → Option Index
sidx_index body =
    and_then (field 1 body) (λ version.
    and_then (time_bytes version.value) (λ width.
    and_then (field 3 version.rest) (λ flags.
    and_then (field 4 flags.rest) (λ id.
    and_then (field 4 id.rest) (λ scale.
    and_then (field width scale.rest) (λ time.
    and_then (field width time.rest) (λ offset.
    and_then (field 2 offset.rest) (λ reserved.
    and_then (field 2 reserved.rest) (λ count.
    except (eqb scale.value 0)
    (except (eqb count.value 0)
    (except (ltb most_entries count.value)
    (provided (eqb (length count.rest) (entry_bytes * count.value))
    (and_then (entries_of count.value count.rest) (λ entries.
    some (record { id = id.value; scale = scale.value; time = time.value; offset = offset.value; entries = entries })))))))))))))))

-- `tfhd`: version and flags (4 bytes), track ID (4); the rest is ignored. It says the track ID.
unfoldable pub tfhd_track : List ℕ → Option ℕ
tfhd_track body = and_then (field 4 body) (λ flags. and_then (field 4 flags.rest) (λ track. some track.value))

-- `tfdt`: version (1 byte), flags (3), decode time (4 bytes in version 0, 8 in version 1), and no more. It says the decode time.
unfoldable pub tfdt_time : List ℕ → Option ℕ
tfdt_time body =
    and_then (field 1 body) (λ version.
    and_then (time_bytes version.value) (λ width.
    and_then (field 3 version.rest) (λ flags.
    provided (eqb (length flags.rest) width)
    (and_then (field width flags.rest) (λ time. some time.value)))))
