-- A line of text.
use Rattle.std.specs.Prelude.{List, [], ◌∷◌, ◌++◌, ℕ}
use Rattle.text.specs.Bytes.{tab, newline}

-- A line: its fields, parted by tabs, and a newline at the end.
abbrev pub line : List ℕ → List (List ℕ) → List ℕ
line field [] = field ++ (newline ∷ [])
line field (next ∷ more) = field ++ (tab ∷ line next more)
