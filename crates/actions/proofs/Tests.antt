use Rattle.std.proofs.Common.{◌≡◌, ℕ, ◌≤◌, true, leb, List, length}
use Rattle.std.proofs.lemmas.Bool.{and_parts, leb-true}
use Rattle.std.specs.List.{list_all}
use Rattle.actions.specs.Words.{argument_byte, is_argument}

-- an argument has 1 to 16 bytes, each of which may stand in one
pub argument_parts : (w : List ℕ) → is_argument w ≡ true → (1 ≤ length w) × (length w ≤ 16) × (list_all argument_byte w ≡ true)
argument_parts w t =
    let p = and_parts (leb 1 (length w)) _ t in
    let q = and_parts (leb (length w) 16) _ p.1 in
    (leb-true 1 (length w) p.0, leb-true (length w) 16 q.0, q.1)
