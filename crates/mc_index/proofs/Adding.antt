-- One more entry of another row keeps entries apart.
use Rattle.std.proofs.Common.{◌≡◌, ◌≢◌, ℕ, suc, ◌<◌, Bool, false, ◌||◌, List, [], ◌∷◌, ◌++◌}
use Rattle.std.proofs.Common.{length, get_or, map, refl, sym, ap, ◌∙◌, subst, arith}
use Rattle.std.specs.List.{All, IsDistinct, list_any}
use Rattle.std.specs.Prelude.{nat_eq, slice_index}
use Rattle.std.proofs.lemmas.Bool.Decides.{nat_tests}
use Rattle.std.proofs.lemmas.Cmp.{nat_eq_equiv}
use Rattle.std.proofs.lemmas.List.{get_or-map, length-map, map_push}
use Rattle.std.proofs.lemmas.List.Elements.{All-push}
use Rattle.std.proofs.lemmas.Map.Keys.{IsDistinct-push}
use Rattle.mc_order.specs.declared.pad.Pad.{Pad}
use Rattle.mc_index.specs.declared.entry.Entry.{Entry}
use Rattle.mc_index.specs.Entries.{AreApart, SeenEntry, SeenIndex, rows_of}
use Rattle.mc_index.specs.Held.{AreKeyed, IsKeyed, seen, seen_index}

both_false : (a b : Bool) → a ≡ false → b ≡ false → (a || b) ≡ false
both_false a b e f = ap (λ c. c || b) e ∙ f

none_is : (row : ℕ) (rows : List ℕ) → All (λ other. row ≢ other) rows →
    list_any (nat_eq row) rows ≡ false
none_is row [] all = refl
none_is row (other ∷ rows) all =
    let n : row ≢ other = all 0 0 (omega arith) in
    both_false (nat_eq row other) (list_any (nat_eq row) rows) (grind (arith, nat_tests, n))
    (none_is row rows (λ k d within. all (suc k) d (omega arith)))

rows_push : (entries : List Entry) (entry : Entry) →
    rows_of (map seen (entries ++ entry ∷ [])) ≡ rows_of (map seen entries) ++ entry.row ∷ []
rows_push entries entry =
    ap rows_of (map_push seen entries entry)
    ∙ map_push (λ (e : SeenEntry). e.row) (map seen entries) (seen entry)

pub none_held : (pad : Pad) (space : ℕ) (entries : List Entry) → entries ≡ [] →
    AreKeyed pad space entries × AreApart (map seen entries)
unfolding IsDistinct
none_held pad space entries none =
    subst (λ (e : List Entry). AreKeyed pad space e × AreApart (map seen e)) (sym none)
    ((λ k d within. absurd (omega arith)), tt)

pub one_more_held : (pad : Pad) (space : ℕ) (entries new : List Entry) (entry : Entry)
    (old : SeenIndex) → seen_index pad space entries ≡ old →
    AreKeyed pad space entries × AreApart (map seen entries) → entry.key.pad ≡ old.pad →
    entry.key.space ≡ old.space → All (λ other. entry.row ≢ other) (rows_of old.entries) →
    new ≡ entries ++ entry ∷ [] → AreKeyed pad space new × AreApart (map seen new)
one_more_held pad space entries new entry old view held is_pad is_space others added =
    let apart : All (λ other. entry.row ≢ other) (rows_of (map seen entries)) =
    subst (λ (i : SeenIndex). All (λ other. entry.row ≢ other) (rows_of i.entries)) (sym view)
    others in
    subst (λ (e : List Entry). AreKeyed pad space e × AreApart (map seen e)) (sym added) (
      All-push (IsKeyed pad space) entries entry held.0 (
        is_pad ∙ sym (ap (λ (i : SeenIndex). i.pad) view),
        is_space ∙ sym (ap (λ (i : SeenIndex). i.space) view),
      ),
      subst (IsDistinct nat_eq) (sym (rows_push entries entry))
          (IsDistinct-push nat_eq_equiv (rows_of (map seen entries)) entry.row held.1
          (none_is entry.row (rows_of (map seen entries)) apart)),
    )

-- What is read of an entry's row.
pub row_read : (pad : Pad) (space : ℕ) (entries : List Entry) (now : SeenIndex) (i : ℕ)
    (e : Entry) → seen_index pad space entries ≡ now → i < length now.entries →
    e ≡ get_or entries i e → e.row ≡ slice_index (rows_of now.entries) i
row_read pad space entries now i e view within is =
    let len = length-map entries seen in
    let in_seen : i < length (map seen entries) =
    subst (λ (n : SeenIndex). i < length n.entries) (sym view) within in
    ap (λ (x : Entry). x.row) is
    ∙ sym (get_or-map (λ (x : SeenEntry). x.row) (map seen entries) i (seen e) 0 in_seen
    ∙ ap (λ (x : SeenEntry). x.row)
    (get_or-map seen entries i e (seen e) (omega (arith, len, in_seen))))
    ∙ ap (λ (n : SeenIndex). slice_index (rows_of n.entries) i) view
