-- One thing at most comes of tokens.
use Rattle.std.proofs.Common.{◌≡◌, ℕ, List, [], ◌∷◌, map, Result, Ok, Err, sym, ap, ◌∙◌}
use Rattle.mc_token.specs.declared.lexeme.Token.{Token}
use Rattle.mc_grammar.specs.Answers.{HasReading, HasNoReading, HasDeepReading}
use Rattle.mc_sql.specs.Nest.{deeper, nest_limit}
use Rattle.mc_sql.specs.Rules.{statement}
use Rattle.mc_sql.specs.Statements.{statements}
use Rattle.mc_ast.specs.declared.statement.Statement.{Statement}
use Rattle.mc_ast.specs.Parsed.{IsTreeWithin, IsStuckAt, IsTooDeepAt, place_of}
use Rattle.mc_ast.specs.Trees.{IsTreeOf}
use Rattle.mc_parse.specs.Outcome.{IsParsed, IsTold}
use Rattle.mc_parse.specs.declared.fault.ParseFault.{ParseFault}
use Rattle.mc_parse.specs.declared.fault.ParseFault.TheVariants.{NoReading, TooDeep, NoMemory}

-- A tree within the limit is a tree.
abbrev tree_of : (tokens : List Token) (tree : Statement) → IsTreeWithin tokens tree
    → IsTreeOf tokens tree
tree_of tokens tree p = record { reading = p.reading; reads = p.reads; means = p.means }

-- Its reading is one within the limit.
abbrev reading_of : (tokens : List Token) (tree : Statement) → IsTreeWithin tokens tree
    → HasReading statements deeper nest_limit statement tokens
reading_of tokens tree p = record { reading = p.reading; reads = p.reads; within = p.within }

-- The laws that this rests on.
pub record Laws : Type 0 where
  pub one_tree : (tokens : List Token) (tree other : Statement) → IsTreeOf tokens tree
      → IsTreeOf tokens other → tree ≡ other
  pub reading_or_none : (tokens front rest : List Token)
      → HasReading statements deeper nest_limit statement tokens
      → HasNoReading statements deeper nest_limit statement tokens front rest → ⊥
  pub reading_or_deep : (tokens front rest : List Token)
      → HasReading statements deeper nest_limit statement tokens
      → HasDeepReading statements deeper nest_limit statement tokens front rest → ⊥
  pub none_or_deep : (tokens f v h w : List Token)
      → HasNoReading statements deeper nest_limit statement tokens f v
      → HasDeepReading statements deeper nest_limit statement tokens h w → ⊥
  pub one_none : (tokens f v h w : List Token)
      → HasNoReading statements deeper nest_limit statement tokens f v
      → HasNoReading statements deeper nest_limit statement tokens h w → (f ≡ h) × (v ≡ w)
  pub one_deep : (tokens f v h w : List Token)
      → HasDeepReading statements deeper nest_limit statement tokens f v
      → HasDeepReading statements deeper nest_limit statement tokens h w → (f ≡ h) × (v ≡ w)

stuck_once : Laws → (tokens : List Token) (end n m : ℕ) → IsStuckAt tokens end n
    → IsStuckAt tokens end m → n ≡ m
stuck_once l tokens end n m p q =
    p.place
    ∙ ap (λ (z : List Token). place_of end z)
    (l.one_none tokens p.front p.rest q.front q.rest p.stuck q.stuck).1
    ∙ sym q.place

deep_once : Laws → (tokens : List Token) (n m : ℕ) → IsTooDeepAt tokens n
    → IsTooDeepAt tokens m → n ≡ m
deep_once l tokens n m p q =
    p.place
    ∙ ap (λ (z : List Token). place_of 0 z)
    (l.one_deep tokens p.front (p.token ∷ p.behind) q.front (q.token ∷ q.behind) p.deep q.deep).1
    ∙ sym q.place

pub one_outcome : Laws → (tokens : List Token) (end : ℕ) (a b : Result Statement ParseFault)
    → IsParsed tokens end a → IsParsed tokens end b → IsTold a → IsTold b → a ≡ b
one_outcome l tokens end (Ok a) (Ok b) p q s t =
    ap (λ (z : Statement). Ok z) (l.one_tree tokens a b (tree_of tokens a p) (tree_of tokens b q))
one_outcome l tokens end (Ok a) (Err (NoReading n)) p q s t =
    absurd (l.reading_or_none tokens q.front q.rest (reading_of tokens a p) q.stuck)
one_outcome l tokens end (Ok a) (Err (TooDeep n)) p q s t =
    absurd (l.reading_or_deep tokens q.front (q.token ∷ q.behind) (reading_of tokens a p) q.deep)
one_outcome l tokens end (Err (NoReading n)) (Ok b) p q s t =
    absurd (l.reading_or_none tokens p.front p.rest (reading_of tokens b q) p.stuck)
one_outcome l tokens end (Err (NoReading n)) (Err (NoReading m)) p q s t =
    ap (λ (z : ℕ). Err (NoReading z)) (stuck_once l tokens end n m p q)
one_outcome l tokens end (Err (NoReading n)) (Err (TooDeep m)) p q s t =
    absurd (l.none_or_deep tokens p.front p.rest q.front (q.token ∷ q.behind) p.stuck q.deep)
one_outcome l tokens end (Err (TooDeep n)) (Ok b) p q s t =
    absurd (l.reading_or_deep tokens p.front (p.token ∷ p.behind) (reading_of tokens b q) p.deep)
one_outcome l tokens end (Err (TooDeep n)) (Err (NoReading m)) p q s t =
    absurd (l.none_or_deep tokens q.front q.rest p.front (p.token ∷ p.behind) q.stuck p.deep)
one_outcome l tokens end (Err (TooDeep n)) (Err (TooDeep m)) p q s t =
    ap (λ (z : ℕ). Err (TooDeep z)) (deep_once l tokens n m p q)
one_outcome l tokens end (Err NoMemory) b p q s t = absurd s
one_outcome l tokens end a (Err NoMemory) p q s t = absurd t
