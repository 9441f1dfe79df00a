use Rattle.std.proofs.Common.{◌≡◌, ℕ, List, [], ◌∷◌, ◌++◌, length, take, drop, refl, ap, ◌∙◌, arith}
use Rattle.std.proofs.lemmas.List.{length-append, length-drop, length-take-le}
use Rattle.numbers.specs.BigEndian.{big_endian}
use Rattle.keys.specs.Keys.{key_size}
use Rattle.entries.proofs.Tops.{head_put}
use Rattle.entries.proofs.heads.head_body.Goals as goal

pub returns : goal.returns
returns c =
    let a = c.copy_from_slice.new.self in
    let z : List ℕ = 0 ∷ 0 ∷ 0 ∷ 0 ∷ [] in
    let n = c.args.len in
    let la = length-append a z in
    let ld = length-drop key_size (a ++ z) in
    let lt : length (take 4 (drop key_size (a ++ z))) ≡ 4 = length-take-le 4 (drop key_size (a ++ z)) (omega arith) in
    let w = c.write_number.ensures ∙ ap (λ k. big_endian k n) lt in
    let p = head_put a z c.write_number.new.into (a ++ z) _ (omega arith) refl refl refl in
    p ∙ (ap (λ xs. a ++ xs) w ∙ ap (λ xs. xs ++ big_endian 4 n) (c.copy_from_slice.ensures.after ∙ c.to_bytes.ensures))
