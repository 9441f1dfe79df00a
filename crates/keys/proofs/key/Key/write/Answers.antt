use Rattle.std.proofs.Common.{◌≡◌, length, take, drop, refl, ap, ◌∙◌, arith}
use Rattle.std.proofs.lemmas.List.{length-take, length-drop}
use Rattle.std.proofs.lemmas.Slice.{put_mid-paste}
use Rattle.std.proofs.lemmas.Bool.{eq-eqb}
use Rattle.numbers.specs.BigEndian.{big_endian}
use Rattle.keys.specs.Keys.{key_bytes}
use Rattle.keys.proofs.Trips.{write_last}
use Rattle.keys.proofs.key.Key.write.Goals as goal

pub returns : goal.returns
unfolding key_bytes
returns c =
    let n = c.args.self.now.count in
    let ys = c.loop-i.into in
    let l : length (take 4 (drop 32 ys)) ≡ 4 = simp (length-take, length-drop) (omega arith) in
    let b = ap (λ k. big_endian k c.from.result) l ∙ ap (big_endian 4) c.from.ensures in
    let t = eq-eqb (length c.args.into.now) 36 (omega arith) in
    let last =
    write_last c.args.self.now.words c.args.into.now ys _ c.loop-i.i n (omega arith) (omega arith) (omega arith) c.loop-i.invariant
    (put_mid-paste 32 4 ys c.write_number-2.new.into (big_endian 4 n) 4 (c.write_number-2.ensures ∙ b) refl refl) in
    rw t (record { answer = refl; after = last })
