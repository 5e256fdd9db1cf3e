-- From what the tokens of a statement come to, to how it reads.
use Rattle.std.proofs.Common.{◌≡◌, ℕ, List, Result, Ok, Err, Some, sym, ap, ◌∙◌, subst}
use Rattle.std.specs.Prelude.{IfOk}
use Rattle.mc_ast.specs.Parsed.{IsTreeWithin}
use Rattle.mc_ast.specs.Trees.{IsTreeOf}
use Rattle.mc_ast.specs.declared.statement.Statement.{Statement}
use Rattle.mc_base.specs.declared.no_memory.NoMemory.{NoMemory as Lack}
use Rattle.mc_base.specs.declared.refusal.Refusal.{Refusal}
use Rattle.mc_base.specs.declared.span.Span.{Span}
use Rattle.mc_parse.specs.Outcome.{IsParsed}
use Rattle.mc_parse.specs.declared.fault.ParseFault.{ParseFault}
use Rattle.mc_token.specs.Tokens.{tokens_of}
use Rattle.mc_token.specs.declared.lexeme.LexFault.{LexFault}
use Rattle.mc_token.specs.declared.lexeme.Token.{Token}
use Rattle.mycoll.specs.Reading.{TokensRead, HasRead, parse_refusal}
use Rattle.mycoll.specs.Unanswered.{reason_of}
use Rattle.mycoll.specs.declared.unanswered.Unanswered.{Unanswered}

-- A tree within the levels is a tree.
pub tree_of : (tokens : List Token) (tree : Statement) → IsTreeWithin tokens tree → IsTreeOf tokens tree
tree_of tokens tree p = record { reading = p.reading; reads = p.reads; means = p.means }

-- A refusal that was made of a fault is how the statement reads, unless memory ran out for it.
pub fault_read : (script : List ℕ) (statement : Span) (tokens : List Token) (fault : ParseFault) (wanted : Refusal)
    (made : Result Refusal Lack) (reason : Unanswered) → tokens_of script statement ≡ Ok tokens
    → IsParsed tokens statement.end (Err fault) → parse_refusal fault ≡ Some wanted
    → reason ≡ reason_of made → IfOk made (λ r. r ≡ wanted) → HasRead script statement (Err reason)
fault_read script statement tokens fault wanted (Ok r) reason lexed parsed says e h =
    rw e (subst (λ (z : Result (List Token) LexFault). TokensRead statement.end z (Err r)) (sym lexed)
    (fault, parsed, says ∙ ap (λ (z : Refusal). Some z) (sym h)))
fault_read script statement tokens fault wanted (Err lack) reason lexed parsed says e h = rw e tt
