-- A reading means one statement at most.
use Rattle.std.proofs.Common.{◌≡◌, List, [], ◌∷◌, ap, ◌∙◌}
use Rattle.mc_token.specs.declared.lexeme.Token.{Token}
use Rattle.mc_grammar.specs.Reading.{Forest, IsReading}
use Rattle.mc_sql.specs.Rules.{Alternative, statement}
use Rattle.mc_sql.specs.Statements.{statements}
use Rattle.mc_ast.specs.declared.statement.Statement.{Statement}
use Rattle.mc_ast.specs.Values.{Value, a_statement}
use Rattle.mc_ast.specs.Trees.{meanings, IsTreeOf}

one_statement : (a b : Statement) (vs : List Value) → vs ≡ a_statement a ∷ [] → vs ≡ a_statement b ∷ [] → a ≡ b
one_statement a b vs p q = cc

pub one_tree : ((tokens : List Token) (f h : Forest Alternative Token) → IsReading statements statement tokens f → IsReading statements statement tokens h → f ≡ h)
    → (tokens : List Token) (tree other : Statement) → IsTreeOf tokens tree → IsTreeOf tokens other → tree ≡ other
one_tree once tokens tree other p q =
    one_statement tree other (meanings p.reading) p.means
    (ap (λ f. meanings f) (once tokens p.reading q.reading p.reads q.reads) ∙ q.means)
