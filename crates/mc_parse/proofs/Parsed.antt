-- What comes of the tokens of a statement, by what a descent says of them.
use Rattle.std.proofs.Common.{◌≡◌, refl, sym, ap, ◌∙◌, subst, ℕ, ◌≤◌, ◌-◌, List, [], ◌∷◌, ◌++◌}
use Rattle.std.proofs.Common.{drop}
use Rattle.std.proofs.Common.{append-nil, length, length-append, map, arith}
use Rattle.mc_token.specs.declared.lexeme.Token.{Token}
use Rattle.mc_grammar.specs.Reading.{Forest, IsReading}
use Rattle.mc_grammar.specs.Answers.{HasNoReading, HasDeepReading, GoesNoFurther, GoesDeeper}
use Rattle.mc_grammar.specs.Goes.{GoesOn, GoesOnWithin, Whole}
use Rattle.mc_grammar.specs.Places.{Done, Fails, IsTooDeep}
use Rattle.mc_grammar.proofs.Tops.{whole_reading, done_within, left_over_at, fails_within, fails_at}
use Rattle.mc_grammar.proofs.Tops.{fails_at_end, too_deep_within_before, too_deep_goes_on}
use Rattle.mc_grammar.proofs.Tops.{too_deep_at}
use Rattle.mc_sql.specs.Nest.{deeper, nest_limit}
use Rattle.mc_sql.specs.Rules.{Alternative, statement}
use Rattle.mc_sql.specs.Statements.{statements}
use Rattle.mc_sql.specs.Tables.{tables}
use Rattle.mc_sql.proofs.Sound.{covers}
use Rattle.mc_ast.specs.declared.statement.Statement.{Statement}
use Rattle.mc_ast.specs.Meaning.{meaning}
use Rattle.mc_ast.specs.Parsed.{IsTreeWithin, IsStuckAt, IsTooDeepAt, place_of}
use Rattle.mc_ast.specs.Spans.{span_of}
use Rattle.mc_ast.specs.Trees.{meanings}
use Rattle.mc_ast.specs.Values.{Value, a_token, a_statement}
use Rattle.mc_parse.specs.Clauses.{IsClause}
use Rattle.mc_parse.specs.Language.{language, at, behind}
use Rattle.mc_parse.specs.Place.{span_at}
use Rattle.mc_parse.specs.Read.{FailsAt, IsTooDeepAt as DeepAt}

abbrev token_value : Token → Value
token_value token = a_token token

abbrev node_value : Alternative → List Token → List Value → Value
node_value a tokens values = meaning a (span_of tokens) values

-- All tokens are read.
pub whole_read : (tokens : List Token) (tree : Statement)
    → IsClause statement tokens [] (a_statement tree) → IsTreeWithin tokens tree
whole_read tokens tree o =
    let w : Whole statements deeper nest_limit statement meanings tokens (a_statement tree) =
    whole_reading statements tables deeper token_value node_value (behind statement) nest_limit 1
    statement meanings tokens (a_statement tree) refl (λ x f. refl) (λ a x f. refl) o.done in
    record { reading = w.reading; reads = w.reads; within = w.within; means = w.means }

-- Tokens are left.
pub left_over : (tokens : List Token) (next : Token) (rest : List Token) (tree : Statement)
    (end : ℕ) → IsClause statement tokens (next ∷ rest) (a_statement tree)
    → IsStuckAt tokens end next.span.start
unfolding behind
left_over tokens next rest tree end o = record {
  front = o.done.front;
  rest = next ∷ rest;
  stuck = record {
    split = o.done.split;
    goes = done_within statements tables deeper token_value node_value (behind statement)
        nest_limit 1 statement tokens (next ∷ rest) (a_statement tree) o.done;
    stops = λ p. left_over_at statements tables deeper token_value node_value covers nest_limit
        statement tokens next rest (a_statement tree) o.done p;
  };
  place = refl;
}

pub whole_at : (tokens rest : List Token) (tree : Statement) → 0 ≡ length rest
    → IsClause statement tokens rest (a_statement tree) → IsTreeWithin tokens tree
whole_at tokens [] tree e o = whole_read tokens tree o
whole_at tokens (next ∷ rest) tree e o = absurd (omega (arith, e))

pub left_at : (tokens rest : List Token) (tree : Statement) (end : ℕ) → (length rest ≡ 0 → ⊥)
    → IsClause statement tokens rest (a_statement tree)
    → IsStuckAt tokens end (span_at rest).start
left_at tokens [] tree end h o = absurd (h refl)
left_at tokens (next ∷ rest) tree end h o = left_over tokens next rest tree end o

-- Where the last so many tokens begin
pub behind_front : (front rest : List Token) → drop (length front) (front ++ rest) ≡ rest
behind_front [] rest = refl
behind_front (t ∷ front) rest = behind_front front rest

left_behind : (tokens front rest : List Token) (left : ℕ) → tokens ≡ front ++ rest
    → left ≡ length rest → drop (length tokens - left) tokens ≡ rest
left_behind tokens front rest left e h =
    let gone : length tokens - left ≡ length front =
    omega (arith, ap (λ (ts : List Token). length ts) e, length-append front rest) in
    ap (λ (n : ℕ). drop n tokens) gone
    ∙ ap (λ (ts : List Token). drop (length front) ts) e
    ∙ behind_front front rest

pub stuck_left : (tokens : List Token) (left : ℕ)
    → FailsAt (behind statement) statement nest_limit tokens left → left ≤ length tokens
stuck_left tokens left f =
    omega (
      arith,
      ap (λ (ts : List Token). length ts) f.fails.split,
      length-append f.fails.front f.rest,
      f.place,
    )

pub deep_left : (tokens : List Token) (left : ℕ)
    → DeepAt (behind statement) statement nest_limit tokens left → left ≤ length tokens
deep_left tokens left f =
    omega (
      arith,
      ap (λ (ts : List Token). length ts) f.deep.split,
      length-append f.deep.front f.rest,
      f.place,
    )

-- The descent fails.
no_further : (tokens rest : List Token)
    → (o : Fails language (behind statement) (at nest_limit statement) tokens rest)
    → GoesNoFurther statements deeper nest_limit statement o.front rest
unfolding behind
no_further tokens [] o = λ reading p.
    fails_at_end statements tables deeper token_value node_value covers nest_limit statement tokens
    reading o (record {
      fits = p.fits;
      same_tokens = p.same_tokens ∙ sym (o.split ∙ append-nil o.front);
    })
no_further tokens (next ∷ rest) o = λ p.
    fails_at statements tables deeper token_value node_value covers nest_limit statement tokens next
    rest o p

pub stuck_at : (tokens : List Token) (left end n : ℕ)
    → FailsAt (behind statement) statement nest_limit tokens left
    → n ≡ place_of end (drop (length tokens - left) tokens) → IsStuckAt tokens end n
unfolding behind
stuck_at tokens left end n f e = record {
  front = f.fails.front;
  rest = f.rest;
  stuck = record {
    split = f.fails.split;
    goes = fails_within statements tables deeper token_value node_value nest_limit statement tokens
        f.rest f.fails;
    stops = no_further tokens f.rest f.fails;
  };
  place = e ∙ ap (λ (ts : List Token). place_of end ts)
      (left_behind tokens f.fails.front f.rest left f.fails.split f.place);
}

-- The descent is too deep.
pub deep_at : (tokens : List Token) (left end n : ℕ)
    → DeepAt (behind statement) statement nest_limit tokens left
    → n ≡ place_of end (drop (length tokens - left) tokens) → IsTooDeepAt tokens n
unfolding behind
deep_at tokens left end n f e = record {
  front = f.deep.front;
  token = f.deep.token;
  behind = f.deep.behind;
  deep = record {
    split = f.deep.split ∙ ap (λ (ts : List Token). f.deep.front ++ ts) f.deep.next;
    goes = too_deep_within_before statements tables deeper token_value node_value nest_limit
        statement tokens f.rest f.deep;
    deeper_on = (
      too_deep_goes_on statements tables deeper token_value node_value nest_limit statement tokens
          f.rest f.deep,
      λ p. too_deep_at statements tables deeper token_value node_value covers nest_limit statement
          tokens f.rest f.deep p,
    );
  };
  place = e ∙ ap (λ (ts : List Token). place_of end ts)
      (left_behind tokens f.deep.front f.rest left f.deep.split f.place)
      ∙ ap (λ (ts : List Token). place_of end ts) f.deep.next;
}

-- The ways through each function, by its name.
pub ruleset placed_ways = (stuck_left, deep_left, stuck_at, deep_at)
