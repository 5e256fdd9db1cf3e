-- Every list of symbols is read from its completion.
use Rattle.std.proofs.Common.{List, [], ◌∷◌, ap}
use Rattle.mc_grammar.specs.Grammar.{Symbol, one, rule}
use Rattle.mc_grammar.specs.Reading.{leaf}
use Rattle.mc_grammar.specs.Language.{Language, Reads}
use Rattle.mc_grammar.specs.Completions.{Completions, completion, Complete}
use Rattle.mc_grammar.proofs.Steps.{reads_nothing, reads_append}

module _ {K R A S T V : Type 0} (l : Language K R A S T V) (c : Completions K R T)
    (d : Complete l c) where
  pub completes : (ss : List (Symbol K R)) → Reads l ss (completion c ss)
  completes [] = reads_nothing l
  completes (one k ∷ ss) =
      let rest : Reads l ss (completion c ss) = completes ss in
      record {
        forest = leaf (c.token_of k) rest.forest;
        fits = (d.each_class k, rest.fits);
        same_tokens = ap (λ (x : List _). c.token_of k ∷ x) rest.same_tokens;
      }
  completes (rule r ∷ ss) =
      reads_append l (rule r ∷ []) ss (c.tokens_of_rule r) (completion c ss)
      (d.each_rule r) (completes ss)
