-- LIKE over its two sides, in the set of a collation: MySQL 8.0 manual, 12.8.1.
use Rattle.std.specs.Prelude.{ℕ, Option, Some}
use Rattle.mc_charset.specs.declared.collation_id.CollId.{CollId}
use Rattle.mc_like.specs.Items.{items_of}
use Rattle.mc_like.specs.Like.{is_like}
use Rattle.mc_order.specs.Meaning.{Meaning}
use Rattle.mc_values.specs.declared.value.Value.{Value}
use Rattle.mc_values.specs.declared.value.Value.TheVariants as value
use Rattle.mc_eval.specs.Texts.{chars_in}
use Rattle.mc_eval.specs.Truths.{known}
use Rattle.mc_eval.specs.declared.truth.Truth.{Truth}
use Rattle.mc_eval.specs.declared.truth.Truth.TheVariants.{Unknown}

-- The characters of the text match the items of the pattern.
abbrev pub liked_by : Meaning → Option ℕ → Value → Value → Truth
liked_by m escape it pattern =
    known (is_like m (items_of escape (chars_in m.charset pattern)) (chars_in m.charset it))

-- LIKE: NULL where a side is.
abbrev pub liked : (ℕ → Meaning) → Option CollId → Option ℕ → Value → Value → Truth
liked meaning (Some id) escape (value.Str set text) (value.Str other more) =
    liked_by (meaning id.0) escape (value.Str set text) (value.Str other more)
liked meaning coll escape it pattern = Unknown
