-- The three lines that document 01 gives for segment S, character by character.
use Rattle.std.specs.Prelude.{Ok}
use mathlib.Core.Path.{◌≡◌, refl}
use mathlib.Core.List.{[], ◌∷◌}
use Rattle.basics.specs.Choose.{pick}
use Rattle.listing.specs.Text.{decimal_in, spaced, heading_text, leaf_text}

-- `ok 2`
pub heading_of_s : heading_text (Ok 2) ≡
    111 ∷ 107 ∷ 32 ∷ 50 ∷ []
unfolding pick decimal_in spaced
heading_of_s = refl

-- `1 76 60 5000 2000 2415919104 100`
pub first_of_s : leaf_text 1 (record { position = 76; size = 60; start = 5000; duration = 2000; sap = 2415919104; time = 100 }) ≡
    49 ∷ 32 ∷ 55 ∷ 54 ∷ 32 ∷ 54 ∷ 48 ∷ 32 ∷ 53 ∷ 48 ∷ 48 ∷ 48 ∷ 32 ∷ 50 ∷ 48 ∷ 48 ∷ 48 ∷ 32 ∷ 50 ∷ 52 ∷ 49 ∷ 53 ∷ 57 ∷ 49 ∷ 57 ∷ 49 ∷ 48 ∷ 52 ∷ 32 ∷ 49 ∷ 48 ∷ 48 ∷ []
unfolding pick decimal_in spaced
first_of_s = refl

-- `2 136 60 7000 3000 2415919104 2100`
pub second_of_s : leaf_text 2 (record { position = 136; size = 60; start = 7000; duration = 3000; sap = 2415919104; time = 2100 }) ≡
    50 ∷ 32 ∷ 49 ∷ 51 ∷ 54 ∷ 32 ∷ 54 ∷ 48 ∷ 32 ∷ 55 ∷ 48 ∷ 48 ∷ 48 ∷ 32 ∷ 51 ∷ 48 ∷ 48 ∷ 48 ∷ 32 ∷ 50 ∷ 52 ∷ 49 ∷ 53 ∷ 57 ∷ 49 ∷ 57 ∷ 49 ∷ 48 ∷ 52 ∷ 32 ∷ 50 ∷ 49 ∷ 48 ∷ 48 ∷ []
unfolding pick decimal_in spaced
second_of_s = refl
