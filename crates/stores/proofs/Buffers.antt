use Rattle.std.proofs.Common.{◌≡◌, ℕ, ◌-◌, ◌≤◌, ◌==◌, Ok, List, [], length, replicate, ap, ◌∙◌, arith}
use Rattle.std.proofs.lemmas.List.{length-append, length-replicate}
use Rattle.keys.specs.Digests.{value_room}
use Rattle.stores.specs.Numbers.{refused_unless, padded}

-- a buffer of a value's room, filled with zeros, holds no value
pub blanked : (xs out : List ℕ) → length xs ≡ value_room → out ≡ replicate (length xs) 0 → out ≡ padded []
unfolding padded
blanked xs out h e = e ∙ ap (λ n. replicate n 0) h

-- a value that has room fills a buffer of a value's room
pub length-padded : (v : List ℕ) → length v ≤ value_room → length (padded v) ≡ value_room
unfolding padded
length-padded v h =
    let a = length-append v (replicate (value_room - length v) 0) in
    let r = length-replicate {A = ℕ} (value_room - length v) 0 in
    omega arith

-- a buffer and a value that were not refused
pub buffer_fits : (buffer : List ℕ) → Ok tt ≡ refused_unless (length buffer == value_room) → length buffer ≡ value_room
buffer_fits buffer h = grind arith
