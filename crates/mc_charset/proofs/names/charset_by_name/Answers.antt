use Rattle.std.proofs.Common.{sym, ◌∙◌}
use Rattle.mc_charset.proofs.SetNames.{set_named_names}
use Rattle.mc_charset.proofs.names.charset_by_name.Goals as goal

pub returns-clause-names : goal.returns-clause-names
returns-clause-names c = λ set.
    let named = set_named_names c.args.name.now set in
    (λ e. named.0 (sym c.listed_set.ensures ∙ e), λ h. c.listed_set.ensures ∙ named.1 h)
