use Rattle.std.specs.Prelude.{◌≡◌, ℕ, ◌<◌, ◌≤◌, List, [], ◌∷◌, ◌++◌, length}
use Rattle.std.specs.Int.Digits.{AllBelowBase}
use Rattle.keys.specs.Digests.{fnv1a, tally_sum, tally_weighted}
use Rattle.keys.specs.Keys.{make_key, key_words}

-- two strings that differ in one byte never have the same digest
abbrev pub DetectsOneByte : (List ℕ → ℕ) → Type 0
DetectsOneByte digest =
    (xs ys : List ℕ) (a b : ℕ) → AllBelowBase 256 xs → AllBelowBase 256 ys → a < 256 → b < 256 → digest (xs ++ a ∷ ys) ≡ digest (xs ++ b ∷ ys) → a ≡ b

-- a single damaged byte always shows, under both digests
abbrev pub SingleBytesDetected : Type 0
SingleBytesDetected = DetectsOneByte fnv1a × DetectsOneByte tally_sum

-- a digest whose words and counts fit their widths, so that its keys have exactly these numbers
abbrev pub Uncut : ℕ → (List ℕ → List ℕ) → Type 0
Uncut most words =
    (bs : List ℕ) → AllBelowBase 256 bs → length bs ≤ most → (key_words (make_key (words bs) (length bs)) ≡ words bs) × ((make_key (words bs) (length bs)).count ≡ length bs)

-- the keys of both digests have exactly the words and the count
abbrev pub KeysUncut : Type 0
KeysUncut =
    Uncut 65536 (λ bs. fnv1a bs ∷ 0 ∷ 0 ∷ 0 ∷ []) × Uncut 65536 (λ bs. tally_sum bs ∷ tally_weighted bs ∷ 0 ∷ 0 ∷ [])

-- the sums of a string that Tally takes, of which the larger has 39 bits
abbrev pub TallyFits : Type 0
TallyFits =
    (bs : List ℕ) → AllBelowBase 256 bs → length bs ≤ 65536 → (tally_sum bs ≤ 16711680) × (tally_weighted bs ≤ 547616686080)
