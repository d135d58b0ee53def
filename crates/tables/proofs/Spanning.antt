-- Laws of Spanning: what is done span by span is done over all the pages.
use Prim.Native.Nat.{ℕ, suc, ◌≤◌}
use native.Mathlib.Omega.{arith}
use mathlib.Core.Path.{◌≡◌, refl, sym, subst, ◌∙◌}
use mathlib.Core.Bool.{true}
use mathlib.Core.List.{List, [], ◌∷◌}
use denote.Param.Members.{Mut, Called}
use Rattle.std.specs.Iterator.{Yields, CallsWhile, FindsMapped}
use Rattle.std.specs.Iterator.Runs.{Run, SomeRun, YieldsRun, AllItems, AllItemsGive, CallKeepsClosure}
use Rattle.std.specs.List.{FoldsTo}
use Rattle.std.specs.Prelude.{Option, Some, None, IfSome, MatchOption, IsTrue, slice_get}
use Rattle.tables.specs.declared.spans.Span.{Span}
use Rattle.tables.specs.declared.spans.Spans.{Spans}
use Rattle.tables.specs.Spanning.{SpanTaken}

-- what holds at the first page, and is handed on over each span, holds where the spans taken end
handed_on : {F : Type 0} (R : F → Span → F → Type 0) (P : ℕ → Type 0) (f : F) → ((x : Span) (q : F) → R f x q → q ≡ f)
    → ((x : Span) (q : F) → R f x q → P x.from → P x.to) → (s t : Spans) (xs : List Span) (q : F) → Yields SpanTaken s xs t → FoldsTo R f xs q → P s.from
    → (q ≡ f) × (P t.from × (t.to ≡ s.to))
handed_on R P f same each s t [] q here stays at = (sym stays, subst (λ v. P v.from × (v.to ≡ s.to)) here (at, refl))
handed_on R P f same each s t (x ∷ xs) q (j, taken, rest) (k, first, more) at =
    let there = subst P taken.1.1 (each x k first (subst P (sym taken.1.0) at)) in
    let (e, (further, end)) = handed_on R P f same each j t xs q rest (subst (λ v. FoldsTo R v xs q) (same x k first) more) there in
    (e, (further, end ∙ taken.0))

-- a call for each span, up to one that stops it: what holds at the first page, and is handed on over each span before, holds where it ends
pub over_spans : {F R End Goal : Type 0} {Stop : List Span → F → Span → Type 0} (g : Mut F (Span × Unit {0}) R) (on : R) (P : ℕ → Type 0) (s u : Spans) (f : F)
    → CallsWhile SpanTaken g on s f u End Stop → ((x : Span) (q : F) → Called g f (x, tt) on q → q ≡ f)
    → ((x : Span) (q : F) → Called g f (x, tt) on q → P x.from → P x.to) → P s.from → ((page : ℕ) → s.to ≤ page → P page → End → Goal)
    → ((x : Span) (xs : List Span) → x.to ≤ s.to → P x.from → Stop xs f x → Goal) → Goal
over_spans g on P s u f (xs, None, q, (t, taken, last), called, end) same each at whole stopped =
    let (e, (there, end-is)) = handed_on (λ p x q. Called g p (x, tt) on q) P f same each s t xs q taken called at in
    let past : s.to ≤ t.from = omega (arith, last.1) in
    whole t.from past there end
over_spans {Stop = Stop} g on P s u f (xs, Some x, q, (t, taken, last), called, stop) same each at whole stopped =
    let (e, (there, end-is)) = handed_on (λ p x q. Called g p (x, tt) on q) P f same each s t xs q taken called at in
    let inside : x.to ≤ s.to = omega (arith, last.1.1, last.1.2) in
    stopped x xs inside (subst P (sym last.1.0) there) (subst (λ v. Stop xs v x) e stop)

-- the same of all the spans
each_folds : (Q : Span → Type 0) (xs : List Span) → ((k : ℕ) → IfSome (slice_get xs k) Q) → FoldsTo {P = Unit {0}} (λ p x q. Q x) tt xs tt
each_folds Q [] all = refl
each_folds Q (x ∷ xs) all = (tt, all 0, each_folds Q xs (λ k. all (suc k)))

over_all_spans : (Q : Span → Type 0) (P : ℕ → Type 0) (s : Spans) (p : Run SpanTaken) → p.from ≡ s → p.whole ≡ true → AllItems p Q
    → ((x : Span) → Q x → P x.from → P x.to) → P s.from → (page : ℕ) × ((s.to ≤ page) × P page)
unfolding YieldsRun
over_all_spans Q P s p start whole all each at =
    let ((t, taken, end), at-is) = p.gave in
    let (u, last) = end whole in
    let folds = each_folds Q p.items (λ k. rw (← at-is k) (all k)) in
    let (e, (there, same)) = handed_on (λ p x q. Q x) P tt (λ x q h. refl) (λ x q h. each x h) s t p.items tt (rw start at taken) folds at in
    (t.from, (omega (arith, last.1), there))

-- the first answer of a call for each span, or none of all
pub found_over_spans : {F B Goal : Type 0} (g : Mut F (Span × Unit {0}) (Option B)) (P : ℕ → Type 0) (s u : Spans) (f : F) (r : Option B)
    (More : B → Run SpanTaken → Type 0) → FindsMapped SpanTaken g s f r u
    → SomeRun SpanTaken s (λ p. MatchOption r (IsTrue p.whole × AllItemsGive p g f None) (λ y. More y p)) → CallKeepsClosure g f
    → ((x : Span) → Called g f (x, tt) None f → P x.from → P x.to) → P s.from → ((page : ℕ) → s.to ≤ page → P page → r ≡ None → Goal)
    → ((x : Span) (y : B) (q : F) → x.to ≤ s.to → P x.from → r ≡ Some y → Called g f (x, tt) (Some y) q → Goal) → Goal
found_over_spans g P s u f None More ran (p, start, (whole, none)) same each at all some =
    let (page, (past, there)) = over_all_spans (λ x. Called g f (x, tt) None f) P s p start whole (none same) each at in
    all page past there refl
found_over_spans g P s u f (Some y) More ran runs same each at all some =
    over_spans g None P s u f ran (λ x q k. same (x, tt) None q k) (λ x q k. each x (subst (λ v. Called g f (x, tt) None v) (same (x, tt) None q k) k)) at
    (λ page past there end. cc) (λ x xs inside there stop. let (q, k) = stop in some x y q inside there refl k)
