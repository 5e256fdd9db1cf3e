-- The ways through the functions that read arguments behind commas.
use Rattle.std.proofs.Common.{◌≡◌, refl, sym, ap, ◌∙◌, subst, ℕ, suc, ◌+◌, ◌<◌, ◌≤◌, Bool, true}
use Rattle.std.proofs.Common.{false, not, ◌&&◌, List, [], ◌∷◌, ◌++◌, IsTrue, length, arith}
use Rattle.mc_base.specs.declared.span.Span.{Span}
use Rattle.mc_token.specs.declared.lexeme.Lexeme.TheVariants.{Sym}
use Rattle.mc_token.specs.declared.lexeme.Symbol.TheVariants.{RightParen, Comma}
use Rattle.mc_token.specs.declared.lexeme.Token.{Token}
use Rattle.mc_grammar.proofs.Seeing.{sees_next}
use Rattle.mc_grammar.proofs.Ways.{choose, take_token, read_rule}
use Rattle.mc_sql.specs.Classes.{mark}
use Rattle.mc_sql.specs.Rules as rule
use Rattle.mc_ast.specs.declared.expr.Expr.{Expr}
use Rattle.mc_ast.specs.declared.expr.Form.TheVariants as form
use Rattle.mc_ast.specs.Spans.{span_from}
use Rattle.mc_ast.specs.Values.{Operand, operand, exprs}
use Rattle.mc_parse.specs.declared.fault.Fault.{Fault}
use Rattle.mc_parse.specs.declared.fault.Fault.TheVariants.{NoReading}
use Rattle.mc_parse.specs.declared.operand.Operand.{Operand as Found}
use Rattle.mc_parse.specs.Language.{language, at, behind, behind_at}
use Rattle.mc_parse.specs.Place.{is_missing, span_at, IsNext}
use Rattle.mc_parse.specs.Read.{IsFault, as_operand, IsOperandAt}
use Rattle.mc_parse.specs.Calls.{IsInCall, IsCallRead, IsCallFault, IsClosed, IsUnclosed, IsPushed}
use Rattle.mc_parse.specs.Calls.{HasOrs}
use Rattle.mc_parse.specs.Lists.{IsListed}
use Rattle.mc_parse.proofs.Listing.{IsListing, lists_none, lists_link, lists_all}
use Rattle.mc_parse.proofs.Ways.{sound, both_missing, sees_missing, is_fault, is_link_fault}
use Rattle.mc_parse.proofs.Ways.{link_shorter}
use Rattle.mc_parse.proofs.CallSteps.{in_token, in_rule, in_fault, in_missed, in_closed}
use Rattle.mc_parse.proofs.CallSteps.{in_unclosed}

-- Operands behind commas are read, and appended to a list.
pub record IsArguing (below : ℕ) (tokens rest : List Token) (old now : List Expr) : Type 0 where
  pub last : Span
  pub listing : IsListing (behind rule.more_ors) 1 rule.more_ors below tokens rest old now
      (span_at tokens) last

pub ors_none : {below : ℕ} {tokens : List Token} {old : List Expr}
    → IsArguing below tokens tokens old old
ors_none = record { last = _; listing = lists_none }

ors_here : (below : ℕ) (tokens : List Token) (s : Span) (v w : List Token)
    (old now next : List Expr)
    → IsArguing below tokens (record { span = s; kind = Sym Comma } ∷ v) old now
    → IsPushed below v w now next → IsArguing below tokens w old next
unfolding behind behind_at
ors_here below tokens s v w old now next p o = record {
  last = span_from p.last (record { span = s; kind = Sym Comma } ∷ o.read.done.front);
  listing = lists_link o.member p.listing
      (read_rule language sound (take_token language sound
      (choose language sound (sees_next language sound _)) refl) o.read.done refl refl
      (omega arith))
      (λ later others. refl) o.listed refl (omega arith);
}

pub ors_link : {below : ℕ} {tokens rest v w : List Token} {old now next : List Expr}
    → IsArguing below tokens rest old now → IsNext (Sym Comma) rest v
    → IsPushed below v w now next → IsArguing below tokens w old next
ors_link {below = below} {tokens = tokens} {v = v} {w = w} {old = old} {now = now} {next = next}
    p n o =
    ors_here below tokens n.span v w old now next
    (subst (λ (z : List Token). IsArguing below tokens z old now) n.same p) o

pub ors_shorter : {below : ℕ} {rest v w : List Token} {now next : List Expr}
    → IsNext (Sym Comma) rest v → IsPushed below v w now next → length w < length rest
ors_shorter n o = link_shorter n o.read

ors_missed_here : (below : ℕ) (s : Span) (v : List Token) (fault : Fault)
    → IsFault (behind_at false rule.or) rule.or below v fault
    → IsFault (behind rule.more_ors) rule.more_ors below (record { span = s; kind = Sym Comma } ∷ v)
    fault
unfolding behind behind_at
ors_missed_here below s v fault o =
    is_fault (take_token language sound (choose language sound (sees_next language sound _)) refl)
    o refl refl (omega arith)

pub ors_missed : {below : ℕ} {tokens rest v : List Token} {old now : List Expr} {fault : Fault}
    → IsArguing below tokens rest old now → IsNext (Sym Comma) rest v
    → IsFault (behind_at false rule.or) rule.or below v fault
    → IsFault (behind rule.more_ors) rule.more_ors below tokens fault
ors_missed {below = below} {v = v} {fault = fault} p n o =
    is_link_fault p.listing.chain
    (subst (λ (z : List Token). IsFault (behind rule.more_ors) rule.more_ors below z fault)
    (sym n.same) (ors_missed_here below n.span v fault o)) (omega arith)

pub ors_all : {below : ℕ} {tokens rest : List Token} {old now : List Expr}
    → IsArguing below tokens rest old now → IsTrue (is_missing (mark Comma) rest)
    → HasOrs below tokens rest old now
unfolding behind
ors_all {below = below} {tokens = tokens} {rest = rest} {old = old} {now = now} p h =
    all (lists_all {m = 1} p.listing
    (choose language sound (sees_missing (mark Comma ∷ []) rest (both_missing _ _ h refl))) refl
    (omega arith))
  where
    all : IsListed (behind rule.more_ors) 1 rule.more_ors below tokens rest old now (span_at tokens)
        p.last → HasOrs below tokens rest old now
    all q = record { members = q.links; done = q.done; listed = q.listed }

pub or_pushed : {below : ℕ} {tokens rest : List Token} {old new : List Expr} (x : Found)
    → IsOperandAt false rule.or below tokens rest x → new ≡ old ++ (x.expr ∷ [])
    → IsPushed below tokens rest old new
or_pushed x o h = record { member = as_operand x; read = o; listed = h }

-- Arguments of a call, behind the first

pub comma_missed : {below : ℕ} {name : List ℕ} {tokens v : List Token} {x : Operand} {left : ℕ}
    → IsTrue (is_missing (mark Comma) v) → left ≡ length v
    → IsInCall name below 3 (rule.many_call ∷ []) (operand x ∷ []) tokens v
    → IsCallFault below tokens (NoReading left)
unfolding behind behind_at
comma_missed h e p = in_missed (mark Comma ∷ []) p (both_missing _ _ h refl) refl e

pub second_missed : {below : ℕ} {name : List ℕ} {tokens v w : List Token} {x : Operand}
    {fault : Fault}
    → IsNext (Sym Comma) v w → IsFault (behind_at false rule.or) rule.or below w fault
    → IsInCall name below 3 (rule.many_call ∷ []) (operand x ∷ []) tokens v
    → IsCallFault below tokens fault
unfolding behind behind_at
second_missed n o p = in_fault (in_token p n refl refl) o refl refl

pub others_missed : {below : ℕ} {name : List ℕ} {tokens v w u : List Token} {x : Operand}
    {old now : List Expr} {fault : Fault}
    → IsNext (Sym Comma) v w → IsPushed below w u old now
    → IsFault (behind rule.more_ors) rule.more_ors below u fault
    → IsInCall name below 3 (rule.many_call ∷ []) (operand x ∷ []) tokens v
    → IsCallFault below tokens fault
unfolding behind behind_at
others_missed n o f p =
    in_fault (in_rule (in_token p n refl refl) o.read.done refl refl) f refl refl

pub args_unclosed : {below : ℕ} {name : List ℕ} {tokens v w u r : List Token} {x : Operand}
    {old now new : List Expr} {fault : Fault}
    → IsNext (Sym Comma) v w → IsPushed below w u old now → HasOrs below u r now new
    → IsUnclosed r fault
    → IsInCall name below 3 (rule.many_call ∷ []) (operand x ∷ []) tokens v
    → IsCallFault below tokens fault
unfolding behind behind_at
args_unclosed n o os u p =
    in_unclosed (in_rule (in_rule (in_token p n refl refl) o.read.done refl refl) os.done refl refl)
    u refl

args_here : {below : ℕ} {name : List ℕ} {tokens v w u r q : List Token} {x : Operand}
    {old now new : List Expr} {span : Span}
    → IsNext (Sym Comma) v w → (o : IsPushed below w u old now) → (os : HasOrs below u r now new)
    → IsClosed tokens r q span
    → IsInCall name below 3 (rule.many_call ∷ []) (operand x ∷ []) tokens v
    → IsCallRead below tokens q span (form.Call name (exprs (x ∷ o.member ∷ os.members)))
unfolding behind behind_at
args_here n o os c p =
    in_closed (in_rule (in_rule (in_token p n refl refl) o.read.done refl refl) os.done refl refl)
    c (λ s. refl) refl (λ e s t u. refl)

pub args_read : {below : ℕ} {name : List ℕ} {tokens v w u r q : List Token} {x : Operand}
    {old now new : List Expr} {span : Span}
    → IsNext (Sym Comma) v w → IsPushed below w u old now → HasOrs below u r now new
    → IsClosed tokens r q span → old ≡ x.expr ∷ []
    → IsInCall name below 3 (rule.many_call ∷ []) (operand x ∷ []) tokens v
    → IsCallRead below tokens q span (form.Call name new)
args_read {below = below} {name = name} {tokens = tokens} {q = q} {span = span} n o os c one p =
    subst (λ (z : List Expr). IsCallRead below tokens q span (form.Call name z))
    (sym (os.listed ∙ ap (λ (z : List Expr). z ++ exprs os.members)
    (o.listed ∙ ap (λ (z : List Expr). z ++ (o.member.expr ∷ [])) one)))
    (args_here n o os c p)
