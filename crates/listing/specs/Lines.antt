use Rattle.std.specs.Prelude.{ℕ, List, ◌++◌, codes, decimal}
use Rattle.hexadecimal.specs.Hex.{hex}
use Rattle.keys.specs.declared.key.Key.{Key}
use Rattle.keys.specs.Texts.{key_text}

-- the line of a file's key: the key, the byte count, the name
abbrev pub key_line : List ℕ → Key → List ℕ
key_line name k = key_text k ++ (codes "  " ++ (decimal k.count ++ (codes "  " ++ name)))

-- the lines of an action: its text in hexadecimal, and the key of that text
abbrev pub action_lines : List ℕ → Key → List ℕ
action_lines text k = codes "text " ++ (hex text ++ (codes "\nkey " ++ key_text k))
