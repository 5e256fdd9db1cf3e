-- A tree that a search finds.
use Rattle.std.proofs.Common.{◌≡◌, List, [], ◌∷◌, false, Some}
use Rattle.std.specs.Option.{option_map}
use Rattle.mc_token.specs.declared.lexeme.Token.{Token}
use Rattle.mc_grammar.specs.Grammar.{rule}
use Rattle.mc_grammar.proofs.Search.{Shows, shown, whole_forest, search_readings, may_read, none}
use Rattle.mc_sql.specs.Rules.{statement}
use Rattle.mc_sql.specs.Statements.{statements}
use Rattle.mc_ast.specs.declared.statement.Statement.{Statement}
use Rattle.mc_ast.specs.Values.{a_statement}
use Rattle.mc_ast.specs.Trees.{meanings, IsTreeOf}

-- The search finds a reading with this tree.
pub tree_found : (tokens : List Token) (tree : Statement)
    → option_map (λ f. meanings f) (whole_forest (search_readings statements 60 (rule statement ∷ []) tokens)) ≡ Some (a_statement tree ∷ [])
    → IsTreeOf tokens tree
tree_found tokens tree e =
    let s : Shows statements statement tokens (λ f. meanings f) (a_statement tree ∷ []) =
    shown statements 60 statement tokens (λ f. meanings f) (a_statement tree ∷ []) e in
    record { reading = s.forest; reads = s.reads; means = s.shows }

-- The search finds no way through.
pub no_tree : (tokens : List Token) → may_read statements 60 (rule statement ∷ []) tokens ≡ false
    → (tree : Statement) → IsTreeOf tokens tree → ⊥
no_tree tokens e tree p = none statements 60 statement tokens p.reading e p.reads
