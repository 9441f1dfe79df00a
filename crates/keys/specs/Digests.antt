use Rattle.std.specs.Prelude.{ℕ, ◌+◌, ◌*◌, ◌%◌, ◌^◌, cond, List, [], ◌∷◌, length, Some, None, fold, sum, Option, bit_xor, nat_le}
use Rattle.keys.specs.declared.key.Key.{Key}
use Rattle.keys.specs.Keys.{make_key}

-- the most bytes of a value in a store; every digest takes so many
abbrev pub value_room : ℕ
value_room = 2048

-- an answer for a string of at most so many bytes, absent for a longer one
abbrev pub within : {X : Type 0} → ℕ → List ℕ → X → Option X
within most bs x = cond (nat_le (length bs) most) (Some x) None

-- the key of a byte string under a digest: the digest's words and the byte count
abbrev pub key_of : ℕ → (List ℕ → List ℕ) → List ℕ → Option Key
key_of most words bs = within most bs (make_key (words bs) (length bs))

-- one byte more under FNV-1a: XOR, then multiply
abbrev pub fnv1a_step : ℕ → ℕ → ℕ
fnv1a_step h b = (bit_xor h b * 0x100000001b3) % 2 ^ 64

-- FNV-1a of 64 bits
abbrev pub fnv1a : List ℕ → ℕ
fnv1a bs = fold fnv1a_step 0xcbf29ce484222325 bs

-- the sum of the bytes
abbrev pub tally_sum : List ℕ → ℕ
tally_sum bs = sum bs

-- the sum of each byte times its place, the first place being p
abbrev pub weighted_from : ℕ → List ℕ → ℕ
weighted_from p [] = 0
weighted_from p (b ∷ bs) = b * p + weighted_from (p + 1) bs

-- the sum of each byte times its place, counted from 1
abbrev pub tally_weighted : List ℕ → ℕ
tally_weighted bs = weighted_from 1 bs
