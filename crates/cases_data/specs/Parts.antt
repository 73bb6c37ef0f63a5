-- Parts of what is lent, as lists.
use Rattle.std.specs.Prelude.{ℕ, ◌+◌, ◌-◌, ◌*◌, ◌<◌, ◌≡◌, List, [], ◌&&◌, ltb, leb, length, take, drop}
use Rattle.basics.specs.Choose.{pick}

-- the bytes from one place up to another; none where that is no part
unfoldable pub bytes_from : List ℕ → ℕ → ℕ → List ℕ
bytes_from xs from to = pick (leb to (length xs) && leb from to) (take (to - from) (drop from xs)) []

-- the first n bytes of one level's part of the work area; none where it has no such level, or not so many bytes
unfoldable pub level_part : List ℕ → ℕ → ℕ → List ℕ
level_part work level n = pick (ltb level 4) (bytes_from (bytes_from work (12288 * level) (12288 * level + 12288)) 0 n) []

-- two work areas hold the same in the first n bytes of each level's part, for n up to 12,288; above that no level has so many, and nothing
-- is compared
unfoldable pub SameLevels : List ℕ → List ℕ → ℕ → Type 0
SameLevels v w n = (level : ℕ) → level < 4 → level_part v level n ≡ level_part w level n

-- two leaf tables are equally long and hold the same in their first n numbers
abbrev pub SameNumbers : List ℕ → List ℕ → ℕ → Type 0
SameNumbers v w n = (length v ≡ length w) × (take n v ≡ take n w)
