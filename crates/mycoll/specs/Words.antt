-- The words after the program's name: this engine's own forms.
use Rattle.std.specs.Prelude.{ℕ, List, [], ◌∷◌, Option, Some, None, if◌then◌else◌, codes, ⊤}
use Rattle.std.specs.Str.{bytes_eq}
use Rattle.mc_print.specs.Lines.{line}

-- The files that words name: a catalog, if one is there, and a script.
pub record FileNames : Type 0 where
  pub catalog : Option (List ℕ)
  pub script : List ℕ

-- The form of the words: they name files, or have no form. A form that names none is a case more.
pub data WordsForm : Type 0 where
  file_words : FileNames → WordsForm
  no_form : WordsForm

-- These files, unless the first word is `--make`: that is no form today.
abbrev pub unless_make : List ℕ → FileNames → WordsForm
unless_make word named = if bytes_eq word (codes "--make") then no_form else file_words named

-- The form of words: a script, or a catalog and a script.
abbrev pub words_form : List (List ℕ) → WordsForm
words_form (script ∷ []) = unless_make script (record { catalog = None; script = script })
words_form (catalog ∷ script ∷ []) =
    unless_make catalog (record { catalog = Some catalog; script = script })
words_form words = no_form

-- The form is one that names files.
abbrev pub IsOfFiles : WordsForm → Type 0
IsOfFiles (file_words named) = ⊤
IsOfFiles no_form = ⊥

-- What words of no form are answered with.
abbrev pub usage_line : List ℕ
usage_line = line (codes "usage: mycoll [CATALOG] SCRIPT | --make N")
