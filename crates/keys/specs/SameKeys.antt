use Rattle.std.proofs.Common.{◌≡◌, ◌^◌, ◌<◌, get_or, length, ℕ, Decides, ap}
use native.Mathlib.Bridge.{le_prop}
use mathlib.Core.HLevel.{is_prop→PathP}
use Rattle.std.proofs.lemmas.Slice.Eq.{bytes_eq-Decides}
use Rattle.std.proofs.lemmas.Bool.Decides.{Decides-and, Decides-eqb}
use Rattle.keys.specs.declared.key.Key.{Key}
use Rattle.std.proofs.Math.Nat.{ℕ_set}
use Rattle.keys.specs.Keys.{key_words, same_key}

-- keys of equal words and equal counts are one key
pub same_parts : (j k : Key) → key_words j ≡ key_words k → j.count ≡ k.count → j ≡ k
same_parts j k w c =
    λ i. record {
      words = w i;
      count = c i;
      four = is_prop→PathP (λ i. length (w i) ≡ 4) (λ i. hlevel ℕ_set) j.four k.four i;
      fit = is_prop→PathP (λ i. (n : ℕ) → get_or (w i) n 0 < 2 ^ 64) (λ i. hlevel le_prop) j.fit k.fit i;
      count_fits = is_prop→PathP (λ i. c i < 2 ^ 32) (λ i. le_prop) j.count_fits k.count_fits i;
    }

-- the test of two keys decides whether they are equal
pub same_key_decides : (j k : Key) → Decides (same_key j k) (j ≡ k)
same_key_decides j k =
    let d = Decides-and _ _ (bytes_eq-Decides (key_words j) (key_words k)) (Decides-eqb j.count k.count) in
    (λ t. same_parts j k (d.0 t).0 (d.0 t).1, λ e. d.1 (ap key_words e, ap (λ (x : Key). x.count) e))
