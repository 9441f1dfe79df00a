use Rattle.std.proofs.Common.{◌≡◌, List, [], ◌∷◌, cond, Some, refl, ap, map, string_bytes, codes, String}
use Rattle.std.specs.List.{find, position_or_len}
use Rattle.std.specs.Str.{bytes_eq}
use Rattle.std.specs.declared.alloc.Global.{Global}
use Rattle.std.proofs.lemmas.List.Recursion.{is_position_or_len}
use Rattle.commands.specs.Reading.{Word, first_option, from_place, is_option}

-- the first option is what `find` finds
pub first_option_is_find : (ws : List Word) → first_option ws ≡ find is_option ws
first_option_is_find [] = refl
first_option_is_find (w ∷ ws) = ap (λ o. cond (is_option w) (Some w) o) (first_option_is_find ws)

-- the first `from` stands where `position` says
pub from_place_is_position : (ws : List (String Global)) → from_place (map string_bytes ws) ≡ position_or_len (λ w. bytes_eq (string_bytes w) (codes "from")) ws
from_place_is_position ws =
    is_position_or_len (λ vs. from_place (map string_bytes vs)) (λ w. bytes_eq (string_bytes w) (codes "from")) refl (λ _ _. refl) ws
