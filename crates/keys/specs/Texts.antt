use Rattle.std.specs.Prelude.{◌≡◌, ℕ, cond, List, Some, None, Option, Result}
use Rattle.std.specs.Result.{result_ok}
use Rattle.hexadecimal.specs.Hex.{hex, unhex, writes_bytes}
use Rattle.keys.specs.Keys.{key_size, key_bytes, read_key}
use Rattle.keys.specs.declared.key.Key.{Key}
use Rattle.keys.specs.declared.key.printing.NoKey.{NoKey}

-- a key as people read it: its bytes in hexadecimal
abbrev pub key_text : Key → List ℕ
key_text k = hex (key_bytes k)

-- the key that a text is the text of
abbrev pub read_key_text : List ℕ → Option Key
read_key_text text = cond (writes_bytes key_size text) (read_key (unhex text)) None

-- what comes of reading a text: the key that it is the text of, and an error for every other text
abbrev pub ReadsKey : List ℕ → Result Key NoKey → Type 0
ReadsKey text r = result_ok r ≡ read_key_text text

-- a key reads back from its text, and a text that reads as a key is that key's
abbrev pub KeyTextsRoundTrip : Type 0
KeyTextsRoundTrip =
    ((k : Key) → read_key_text (key_text k) ≡ Some k) × ((text : List ℕ) (k : Key) → read_key_text text ≡ Some k → text ≡ key_text k)
