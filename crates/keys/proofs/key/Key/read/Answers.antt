use Rattle.std.proofs.Common.{◌≡◌, ℕ, ◌+◌, ◌-◌, ◌*◌, ◌^◌, ◌<◌, List, [], ◌∷◌, ◌++◌, length, take, drop, Some, sym, ap, ◌∙◌, arith, length-set}
use Rattle.std.specs.Int.Digits.{number_from_digits}
use Rattle.std.proofs.lemmas.Int.Digits.{number_lt}
use Rattle.std.proofs.ByRecursion.{All-from_get_or, All-drop}
use Rattle.std.proofs.lemmas.List.{length-take, length-drop, take_more_set, take_all}
use Rattle.std.proofs.lemmas.Bool.{eq-eqb}
use Rattle.numbers.specs.BigEndian.{read_big_endian}
use Rattle.numbers.proofs.Trips.{number_read}
use Rattle.keys.specs.Keys.{words_of, make_key}
use Rattle.keys.proofs.Trips.{words_of_more}
use Rattle.keys.proofs.key.Key.read.Goals as goal

pub loop-i-preserved : goal.loop-i-preserved
loop-i-preserved c =
    let bs = c.args.bytes.now in
    let ws = c.loop-i.word-items in
    let i = c.loop-i.i in
    let w = c.in_ok-word.field-0 in
    let k = 8 * i + 8 - 8 * i in
    let e : k ≡ 8 = omega arith in
    let l : length (take k (drop (8 * i) bs)) ≡ 8 = simp (length-take, length-drop) (omega arith) in
    let n = number_read (take k (drop (8 * i) bs)) w (omega arith) c.in_ok-word.ensures in
    let n8 : w ≡ number_from_digits 256 (take 8 (drop (8 * i) bs)) = n ∙ ap (λ m. number_from_digits 256 (take m (drop (8 * i) bs))) e in
    let m = take_more_set ws i w (omega arith) in
    let o = words_of_more i bs in
    (m ∙ (ap (λ vs. vs ++ w ∷ []) c.loop-i.invariant.0 ∙ (ap (λ v. words_of i bs ++ v ∷ []) n8 ∙ sym o)), length-set ws i w ∙ c.loop-i.invariant.1)

-- the count that is read is the number of the last four bytes
count_read : (bs : List ℕ) (n : ℕ) → length bs ≡ 36 → Some n ≡ read_big_endian (take 4 (drop 32 bs)) → n ≡ number_from_digits 256 (drop 32 bs)
count_read bs n long h =
    let d = length-drop 32 bs in
    let l : length (take 4 (drop 32 bs)) ≡ 4 = simp (length-take, length-drop) (omega arith) in
    number_read (take 4 (drop 32 bs)) n (omega arith) h ∙ ap (number_from_digits 256) (take_all 4 (drop 32 bs) (omega arith))

pub overflow_cast-count : goal.overflow_cast-count
overflow_cast-count c =
    let bs = c.args.bytes.now in
    let d = length-drop 32 bs in
    let l : length (drop 32 bs) ≡ 4 = omega arith in
    let u = All-from_get_or (λ b. b < 256) bs 0 (λ i h. omega (arith, c.type_inv.bytes i)) in
    let small = number_lt 256 (drop 32 bs) (All-drop (λ b. b < 256) 32 bs u) in
    let p = ap (λ n. 256 ^ n) l in
    let n = count_read bs c.in_ok-count.count (omega arith) c.in_ok-count.ensures in
    omega arith

pub returns : goal.returns
returns c =
    let bs = c.args.bytes.now in
    let t = eq-eqb (length bs) 36 (omega arith) in
    let n = count_read bs c.in_ok-count.count (omega arith) c.in_ok-count.ensures in
    let four : c.loop-i.i ≡ 4 = omega arith in
    let w : c.loop-i.word-items ≡ words_of 4 bs =
    sym (take_all c.loop-i.i c.loop-i.word-items (omega arith)) ∙ (c.loop-i.invariant.0 ∙ ap (λ i. words_of i bs) four) in
    rw t (ap Some (c.new.ensures ∙ (ap (λ ws. make_key ws c.in_ok-count.count) w ∙ ap (make_key (words_of 4 bs)) n)))
