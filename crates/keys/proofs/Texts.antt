use Rattle.std.proofs.Common.{◌≡◌, ℕ, Bool, true, false, cond, List, Some, None, sym, refl, ap, ◌∙◌}
use Rattle.hexadecimal.specs.Hex.{hex, unhex, writes_bytes}
use Rattle.hexadecimal.proofs.Back as HexBack
use Rattle.keys.specs.Keys.{key_size, key_bytes, read_key}
use Rattle.keys.specs.declared.key.Key.{Key}
use Rattle.keys.proofs.Trips as KeysTrip
use Rattle.keys.specs.Texts.{key_text, read_key_text}

pub back : (k : Key) → read_key_text (key_text k) ≡ Some k
back k =
    let h = HexBack.back (key_bytes k) (KeysTrip.under_key_bytes k) in
    let t : writes_bytes key_size (key_text k) ≡ true = ap (λ n. writes_bytes n (key_text k)) (sym (KeysTrip.length-key_bytes k)) ∙ h.0 in
    rw (t, h.1) (KeysTrip.back k)

only_from : (text : List ℕ) (k : Key) (b : Bool) → b ≡ writes_bytes key_size text → cond b (read_key (unhex text)) None ≡ Some k → text ≡ key_text k
only_from text k true t h =
    let e = KeysTrip.only (unhex text) k (HexBack.under_unhex key_size text (sym t)) h in
    sym (HexBack.only key_size text (sym t)) ∙ ap hex e
only_from text k false t h = cc

pub only : (text : List ℕ) (k : Key) → read_key_text text ≡ Some k → text ≡ key_text k
only text k h = only_from text k (writes_bytes key_size text) refl h
