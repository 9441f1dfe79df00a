use Rattle.std.proofs.Common.{◌≡◌, ℕ, zero, suc, ◌+◌, ◌*◌, ◌%◌, ◌^◌, ◌<◌, ◌≤◌, Bool, true, false, cond, eqb, List, [], ◌∷◌, ◌++◌, length, take, drop, Some, None, sym, refl, ap, ◌∙◌, mod-eq_of_lt, arith}
use lib.Seq.{paste}
use Rattle.std.specs.List.{flat_map, AllByRecursion as All}
use Rattle.std.specs.Int.Digits.{number_from_digits, AllBelowBase}
use Rattle.std.proofs.lemmas.Int.Digits.{number_lt}
use Rattle.std.proofs.ByRecursion.{All-from_get_or, All-append, All-take, All-drop}
use Rattle.std.proofs.lemmas.List.{append_assoc, append-nil, length-append, length-take-le, length-drop, drop-drop, drop_all, take_at, drop_at, take-append-drop, take_all}
use Rattle.std.proofs.lemmas.Bool.{eqb-true, eq-eqb}
use Rattle.numbers.specs.BigEndian.{big_endian}
use Rattle.numbers.proofs.Trips.{length-big_endian, under_big_endian, number_big_endian, big_endian_number}
use Rattle.keys.specs.declared.key.Key.{Key}
use Rattle.keys.specs.Keys.{key_size, words_size, make_key, key_words, key_bytes, words_of, read_key}
use Rattle.keys.specs.SameKeys.{same_parts}

-- the bytes of words, eight to each
pub length_words : (ws : List ℕ) → length (flat_map (big_endian 8) ws) ≡ 8 * length ws
length_words [] = refl
length_words (w ∷ ws) =
    let e = length-append (big_endian 8 w) (flat_map (big_endian 8) ws) in
    let h = length-big_endian 8 w in
    let r = length_words ws in
    omega arith

under_words : (ws : List ℕ) → AllBelowBase 256 (flat_map (big_endian 8) ws)
under_words [] = tt
under_words (w ∷ ws) =
    All-append (λ b. b < 256) (big_endian 8 w) (flat_map (big_endian 8) ws) (under_big_endian 8 w) (under_words ws)

-- words read back from their bytes, whatever lies behind
pub words_back : (ws rest : List ℕ) → All (λ w. w < 2 ^ 64) ws → words_of (length ws) (flat_map (big_endian 8) ws ++ rest) ≡ ws
words_back [] rest fits = refl
words_back (w ∷ ws) rest fits =
    let tail = flat_map (big_endian 8) ws ++ rest in
    let whole = (big_endian 8 w ++ flat_map (big_endian 8) ws) ++ rest in
    let a = append_assoc (big_endian 8 w) (flat_map (big_endian 8) ws) rest in
    let t : take 8 whole ≡ big_endian 8 w = ap (take 8) a ∙ take_at (big_endian 8 w) tail 8 (length-big_endian 8 w) in
    let d : drop 8 whole ≡ tail = ap (drop 8) a ∙ drop_at (big_endian 8 w) tail 8 (length-big_endian 8 w) in
    let n : number_from_digits 256 (take 8 whole) ≡ w = ap (number_from_digits 256) t ∙ number_big_endian 8 w fits.0 in
    let r : words_of (length ws) (drop 8 whole) ≡ ws = ap (words_of (length ws)) d ∙ words_back ws rest fits.1 in
    ap (λ x. x ∷ words_of (length ws) (drop 8 whole)) n ∙ ap (λ xs. w ∷ xs) r

-- the words read are of 64 bits
words_fit : (n : ℕ) (bs : List ℕ) → AllBelowBase 256 bs → 8 * n ≤ length bs → All (λ w. w < 2 ^ 64) (words_of n bs)
words_fit zero bs u long = tt
words_fit (suc n) bs u long =
    let l = length-take-le 8 bs (omega arith) in
    let d = length-drop 8 bs in
    let f = number_lt 256 (take 8 bs) (All-take (λ b. b < 256) 8 bs u) in
    (rw l at f, words_fit n (drop 8 bs) (All-drop (λ b. b < 256) 8 bs u) (omega arith))

-- bytes are what writing their words gives, then the rest
words_only : (n : ℕ) (bs : List ℕ) → AllBelowBase 256 bs → 8 * n ≤ length bs → flat_map (big_endian 8) (words_of n bs) ++ drop (8 * n) bs ≡ bs
words_only zero bs u long = refl
words_only (suc n) bs u long =
    let l = length-take-le 8 bs (omega arith) in
    let d = length-drop 8 bs in
    let ds = drop 8 bs in
    let w = number_from_digits 256 (take 8 bs) in
    let js = flat_map (big_endian 8) (words_of n ds) in
    let b : big_endian 8 w ≡ take 8 bs = ap (λ k. big_endian k w) (sym l) ∙ big_endian_number (take 8 bs) (All-take (λ b. b < 256) 8 bs u) in
    let r : js ++ drop (8 * n) ds ≡ ds = words_only n ds (All-drop (λ b. b < 256) 8 bs u) (omega arith) in
    let e : drop (8 * n) ds ≡ drop (8 * suc n) bs = drop-drop (8 * n) 8 bs ∙ ap (λ k. drop k bs) (omega arith) in
    let a = append_assoc (big_endian 8 w) js (drop (8 * suc n) bs) in
    a ∙ (ap (λ xs. big_endian 8 w ++ (js ++ xs)) (sym e) ∙ (ap (λ xs. big_endian 8 w ++ xs) r ∙ (ap (λ xs. xs ++ ds) b ∙ take-append-drop 8 bs)))

-- one word more is read behind those before it
pub words_of_more : (i : ℕ) (bs : List ℕ) → words_of (i + 1) bs ≡ words_of i bs ++ number_from_digits 256 (take 8 (drop (8 * i) bs)) ∷ []
words_of_more zero bs = refl
words_of_more (suc i) bs =
    let r = words_of_more i (drop 8 bs) in
    let e : drop (8 * i) (drop 8 bs) ≡ drop (8 * suc i) bs = drop-drop (8 * i) 8 bs ∙ ap (λ k. drop k bs) (omega arith) in
    let s : suc i + 1 ≡ suc (i + 1) = omega arith in
    ap (λ n. words_of n bs) s ∙ ap (λ ws. number_from_digits 256 (take 8 bs) ∷ ws) (r ∙ ap (λ xs. words_of i (drop 8 bs) ++ number_from_digits 256 (take 8 xs) ∷ []) e)

-- numbers that fit are not cut
pub uncut : (k : Key) (ws : List ℕ) (n : ℕ) → length ws ≡ 4 → All (λ w. w < 2 ^ 64) ws → n < 2 ^ 32 → key_words k ≡ ws → k.count ≡ n → make_key ws n ≡ k
unfolding make_key
uncut k (a ∷ b ∷ c ∷ d ∷ []) n four fits short ew en =
    let p = mod-eq_of_lt fits.0 in
    let q = mod-eq_of_lt fits.1.0 in
    let r = mod-eq_of_lt fits.1.1.0 in
    let s = mod-eq_of_lt fits.1.1.1.0 in
    let m = mod-eq_of_lt short in
    let w : key_words (make_key (a ∷ b ∷ c ∷ d ∷ []) n) ≡ a ∷ b ∷ c ∷ d ∷ [] = cc in
    same_parts (make_key (a ∷ b ∷ c ∷ d ∷ []) n) k (w ∙ sym ew) (m ∙ sym en)
uncut k [] n four fits short ew en = absurd (omega arith)
uncut k (a ∷ []) n four fits short ew en = absurd (omega arith)
uncut k (a ∷ b ∷ []) n four fits short ew en = absurd (omega arith)
uncut k (a ∷ b ∷ c ∷ []) n four fits short ew en = absurd (omega arith)
uncut k (a ∷ b ∷ c ∷ d ∷ e ∷ ws) n four fits short ew en = absurd (omega arith)

-- a key has its size in bytes, and these are bytes
pub length-key_bytes : (k : Key) → length (key_bytes k) ≡ key_size
unfolding key_bytes
length-key_bytes k =
    let l = length-append (flat_map (big_endian 8) (key_words k)) (big_endian 4 k.count) in
    let w = length_words (key_words k) in
    let n = length-big_endian 4 k.count in
    let f : length k.words ≡ 4 = k.four in
    omega arith

pub under_key_bytes : (k : Key) → AllBelowBase 256 (key_bytes k)
unfolding key_bytes
under_key_bytes k =
    All-append (λ b. b < 256) (flat_map (big_endian 8) (key_words k)) (big_endian 4 k.count)
    (under_words (key_words k)) (under_big_endian 4 k.count)

-- the words of a key fit
pub words_of_key_fit : (k : Key) → All (λ w. w < 2 ^ 64) (key_words k)
words_of_key_fit k = All-from_get_or (λ w. w < 2 ^ 64) k.words 0 (λ i h. k.fit i)

-- a key is made again of its words and its count
pub made_again : (k : Key) → make_key (key_words k) k.count ≡ k
made_again k = uncut k (key_words k) k.count k.four (words_of_key_fit k) k.count_fits refl refl

-- the words and the count of a key read back from its bytes
parts_back : (k : Key) → make_key (words_of 4 (key_bytes k)) (number_from_digits 256 (drop words_size (key_bytes k))) ≡ k
unfolding make_key key_bytes
parts_back k =
    let ws = key_words k in
    let js = flat_map (big_endian 8) ws in
    let four : length ws ≡ 4 = k.four in
    let w : words_of 4 (key_bytes k) ≡ ws = ap (λ n. words_of n (key_bytes k)) (sym four) ∙ words_back ws (big_endian 4 k.count) (words_of_key_fit k) in
    let l : length js ≡ words_size = omega (arith, length_words ws) in
    let d = drop_at js (big_endian 4 k.count) words_size l in
    let c : number_from_digits 256 (drop words_size (key_bytes k)) ≡ k.count = ap (number_from_digits 256) d ∙ number_big_endian 4 k.count k.count_fits in
    ap (λ vs. make_key vs (number_from_digits 256 (drop words_size (key_bytes k)))) w ∙ (ap (make_key ws) c ∙ made_again k)

pub back : (k : Key) → read_key (key_bytes k) ≡ Some k
back k =
    let t = eq-eqb (length (key_bytes k)) key_size (length-key_bytes k) in
    rw t (ap Some (parts_back k))

only_from : (bs : List ℕ) (k : Key) (b : Bool) → b ≡ eqb (length bs) key_size → AllBelowBase 256 bs → cond b (Some (make_key (words_of 4 bs) (number_from_digits 256 (drop words_size bs)))) None ≡ Some k → bs ≡ key_bytes k
unfolding make_key key_bytes
only_from bs k true t u h =
    let l : length bs ≡ 36 = eqb-true (length bs) 36 (sym t) in
    let d = length-drop 32 bs in
    let dl : length (drop 32 bs) ≡ 4 = omega arith in
    let ud = All-drop (λ b. b < 256) 32 bs u in
    let ws = words_of 4 bs in
    let n = number_from_digits 256 (drop 32 bs) in
    let small = number_lt 256 (drop 32 bs) ud in
    let short : n < 2 ^ 32 = omega (arith, ap (λ n. 256 ^ n) dl) in
    let made : make_key ws n ≡ k = cc in
    let fits = words_fit 4 bs u (omega arith) in
    let p = mod-eq_of_lt fits.0 in
    let q = mod-eq_of_lt fits.1.0 in
    let r = mod-eq_of_lt fits.1.1.0 in
    let s = mod-eq_of_lt fits.1.1.1.0 in
    let w : key_words (make_key ws n) ≡ ws = cc in
    let c : n % 2 ^ 32 ≡ n = mod-eq_of_lt short in
    let e = words_only 4 bs u (omega arith) in
    let f : big_endian 4 n ≡ drop 32 bs = ap (λ k. big_endian k n) (sym dl) ∙ big_endian_number (drop 32 bs) ud in
    sym e ∙ (ap (λ xs. flat_map (big_endian 8) ws ++ xs) (sym f) ∙ (ap (λ vs. flat_map (big_endian 8) vs ++ big_endian 4 n) (sym w) ∙ (ap (λ m. flat_map (big_endian 8) (key_words (make_key ws n)) ++ big_endian 4 m) (sym c) ∙ ap key_bytes made)))
only_from bs k false t u h = let z : ◌≡◌ {A = ℕ} 0 1 = cc in absurd (omega arith)

pub only : (bs : List ℕ) (k : Key) → AllBelowBase 256 bs → read_key bs ≡ Some k → bs ≡ key_bytes k
only bs k u h = only_from bs k (eqb (length bs) key_size) refl u h

-- the count is written behind all words
pub write_last : (ws xs ys out : List ℕ) (i n : ℕ) → length ws ≡ 4 → length xs ≡ key_size → i ≡ 4 → ys ≡ flat_map (big_endian 8) (take i ws) ++ drop (8 * i) xs → out ≡ paste ys words_size (big_endian 4 n) 4 → out ≡ flat_map (big_endian 8) ws ++ big_endian 4 n
write_last ws xs ys out i n lw lx ei ey eo =
    let js = flat_map (big_endian 8) ws in
    let e : ys ≡ js ++ drop 32 xs = ey ∙ (ap (λ k. flat_map (big_endian 8) (take k ws) ++ drop (8 * k) xs) ei ∙ ap (λ zs. flat_map (big_endian 8) zs ++ drop 32 xs) (take_all 4 ws (omega arith))) in
    let lj : length js ≡ 32 = length_words ws ∙ ap (λ n. 8 * n) lw in
    let t : take 32 ys ≡ js = ap (take 32) e ∙ take_at js (drop 32 xs) 32 lj in
    let ld = length-drop 32 xs in
    let ly : length ys ≡ 36 = ap length e ∙ (length-append js (drop 32 xs) ∙ omega arith) in
    let d : drop 36 ys ≡ [] = drop_all 36 ys (omega arith) in
    eo ∙ (ap (λ zs. (zs ++ big_endian 4 n) ++ drop 36 ys) t ∙ (ap (λ zs. (js ++ big_endian 4 n) ++ zs) d ∙ append-nil (js ++ big_endian 4 n)))
