use Rattle.std.proofs.Common.{◌≡◌, ℕ, ◌%◌, ◌^◌, ◌<◌, ◌≤◌, List, [], ◌∷◌, length, ap, ◌∙◌, mod-eq_of_lt, arith}
use Rattle.std.specs.Int.Digits.{AllBelowBase}
use Rattle.keys.specs.Digests.{fnv1a, tally_sum, tally_weighted}
use Rattle.keys.specs.Keys.{make_key, key_words}
use Rattle.keys.proofs.Sums.{fnv1a_fits, tally_fits}

-- two words that fit, and a count that fits, are not cut
two_words : (a b n : ℕ) → a < 2 ^ 64 → b < 2 ^ 64 → n < 2 ^ 32 → (key_words (make_key (a ∷ b ∷ 0 ∷ 0 ∷ []) n) ≡ a ∷ b ∷ 0 ∷ 0 ∷ []) × ((make_key (a ∷ b ∷ 0 ∷ 0 ∷ []) n).count ≡ n)
unfolding make_key
two_words a b n fa fb fn =
    let p = mod-eq_of_lt fa in
    let q = mod-eq_of_lt fb in
    (ap (λ x. x ∷ b % 2 ^ 64 ∷ 0 ∷ 0 ∷ []) p ∙ ap (λ x. a ∷ x ∷ 0 ∷ 0 ∷ []) q, mod-eq_of_lt fn)

pub fnv1a_uncut : (bs : List ℕ) → AllBelowBase 256 bs → length bs ≤ 65536 → (key_words (make_key (fnv1a bs ∷ 0 ∷ 0 ∷ 0 ∷ []) (length bs)) ≡ fnv1a bs ∷ 0 ∷ 0 ∷ 0 ∷ []) × ((make_key (fnv1a bs ∷ 0 ∷ 0 ∷ 0 ∷ []) (length bs)).count ≡ length bs)
fnv1a_uncut bs u long = two_words (fnv1a bs) 0 (length bs) (fnv1a_fits bs) (omega arith) (omega arith)

pub tally_uncut : (bs : List ℕ) → AllBelowBase 256 bs → length bs ≤ 65536 → (key_words (make_key (tally_sum bs ∷ tally_weighted bs ∷ 0 ∷ 0 ∷ []) (length bs)) ≡ tally_sum bs ∷ tally_weighted bs ∷ 0 ∷ 0 ∷ []) × ((make_key (tally_sum bs ∷ tally_weighted bs ∷ 0 ∷ 0 ∷ []) (length bs)).count ≡ length bs)
tally_uncut bs u long =
    let f = tally_fits bs u long in
    two_words (tally_sum bs) (tally_weighted bs) (length bs) (omega arith) (omega arith) (omega arith)
