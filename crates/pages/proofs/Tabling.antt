-- What a table of kept blocks promises when blocks are dropped and one is entered.
-- Assumes nothing.
use Rattle.std.specs.Prelude.{Ok}
use Prim.Native.Nat.{ℕ, ◌+◌, ◌*◌, ◌/◌, ◌%◌, ◌≤◌, ◌<◌}
use native.Mathlib.Omega.{arith}
use mathlib.Core.Path.{◌≡◌, refl, sym, ap, ◌∙◌, subst}
use mathlib.Core.Bool.{Bool, true, false}
use mathlib.Core.List.{List}
use mathlib.Core.Logic.{◌⊎◌, inl, inr, ⊎_elim}
use borrow.Author.Count.{below_more}
use borrow.Author.Tests.{eqb-true, eqb-false}
use lib.Dec.{eqb}
use lib.ListN.{length, get_or, set, length-set}
use lib.Seq.{get_or-set_same, get_or-set_other}
use Rattle.machine.specs.declared.Guest.{Guest}
use Rattle.machine.specs.declared.Psw.{Psw}
use Rattle.machine.specs.declared.Registers.{Registers}
use Rattle.machine.specs.Refusals.{frames_of}
use Rattle.machine.specs.Host.{host}
use Rattle.address.specs.Touching.{seen, touch_of}
use Rattle.guard.specs.Guarding.{Wider, Alike}
use Rattle.guard.proofs.Guarded.{alike_narrower}
use Rattle.blocks.specs.Keeping.{Block, fetch_block, store_block, Holding, Leads, Stands, HasMarks, Free}
use Rattle.blocks.proofs.Holding.{leads_block, touch_stands}
use Rattle.pages.specs.Tabling.{Tables, Marked, Fewer, entry_at, entered}

-- each block of a table has a property of its kind
record All (P : Bool → Block → Type 0) (kept : List ℕ) : Type 0 where
  fetch : (i : ℕ) → i < 8 → P false (fetch_block kept i)
  store : (i : ℕ) → i < 8 → P true (store_block kept i)

-- the block of two words
abbrev by_words : List ℕ → ℕ → ℕ → Block
by_words words x y = record { first = get_or words x 0; place = get_or words y 0 }

-- Blocks are dropped.

-- the guard does not name the frame of an entry's block; so for the first entries
abbrev pub FreeAt : List ℕ → List ℕ → ℕ → Type 0
FreeAt guard kept i = Holding (store_block kept i) → get_or guard ((store_block kept i).place / 4096 % 64) 0 ≡ 0

abbrev pub FreeBelow : List ℕ → List ℕ → ℕ → Type 0
FreeBelow guard kept n = (i : ℕ) → i < n → FreeAt guard kept i

pub fewer_none : (kept : List ℕ) → Fewer kept kept
fewer_none kept = record { fetch = λ i few. refl; store = λ i few. inl refl }

pub fewer_trans : (kept kept' kept'' : List ℕ) → Fewer kept kept' → Fewer kept' kept'' → Fewer kept kept''
fewer_trans kept kept' kept'' first second =
    record {
      fetch = λ i few. second.fetch i few ∙ first.fetch i few;
      store = λ i few. ⊎_elim (λ same. ⊎_elim (λ before. inl (same ∙ before)) (λ dropped. inr (ap (λ b. b.first) same ∙ dropped)) (first.store i few)) inr (second.store i few);
    }

-- one entry
module _ (kept : List ℕ) (i : ℕ) (small : i < 8) where
  abbrev dropped : List ℕ
  dropped = set kept (16 + i) 2147483648

  beside_dropped : (x y : ℕ) → (x ≡ 16 + i → ⊥) → (y ≡ 16 + i → ⊥) → by_words dropped x y ≡ by_words kept x y
  beside_dropped x y one two =
      λ t. record { first = get_or-set_other kept (16 + i) x 2147483648 0 one t; place = get_or-set_other kept (16 + i) y 2147483648 0 two t }

  store_beside : (j : ℕ) → j < 8 → (j ≡ i → ⊥) → store_block dropped j ≡ store_block kept j
  store_beside j few other = beside_dropped (16 + j) (24 + j) (λ e. other (omega arith)) (λ e. omega arith)

  pub drop_one : length kept ≡ 32 → Fewer kept dropped
  drop_one long =
      record { fetch = λ j few. beside_dropped j (8 + j) (λ e. omega arith) (λ e. omega arith); store = λ j few. by_test j few (eqb j i) refl }
    where
      by_test : (j : ℕ) → j < 8 → (b : Bool) → eqb j i ≡ b → (store_block dropped j ≡ store_block kept j) ⊎ ((store_block dropped j).first ≡ 2147483648)
      by_test j few true e = inr (rw (eqb-true j i e) (get_or-set_same kept (16 + i) 2147483648 0 (omega arith)))
      by_test j few false e = inl (store_beside j few (eqb-false j i e))

  -- the entries passed, with one more
  pub free_dropped : (guard : List ℕ) → length kept ≡ 32 → FreeBelow guard kept i → FreeBelow guard dropped (i + 1)
  free_dropped guard long below =
      below_more (FreeAt guard dropped) i
      (λ j less. subst (λ b. Holding b → get_or guard (b.place / 4096 % 64) 0 ≡ 0) (sym (store_beside j (omega arith) (λ e. omega arith))) (below j less))
      (λ holding. absurd (omega (arith, holding, get_or-set_same kept (16 + i) 2147483648 0 (omega arith))))

-- a property that each entry without a block has goes over
fewer_all : (P : Bool → Block → Type 0) → ((b : Block) → b.first ≡ 2147483648 → P true b) → (kept kept' : List ℕ) → Fewer kept kept' → All P kept → All P kept'
fewer_all P none kept kept' fewer all =
    record {
      fetch = λ i few. subst (P false) (sym (fewer.fetch i few)) (all.fetch i few);
      store = λ i few. ⊎_elim (λ same. subst (P true) (sym same) (all.store i few)) (none (store_block kept' i)) (fewer.store i few);
    }

-- A block is entered.

-- the block of an address that leads to a place
abbrev pub block_of : ℕ → ℕ → Block
block_of a p = record { first = a / 2048 * 2048; place = p / 2048 * 2048 }

-- two words are written: what holds of the block that was there, or of the new one
module _ (kept : List ℕ) (long : length kept ≡ 32) (n : ℕ) (low : n < 24) (a p : ℕ) where
  abbrev first : ℕ
  first = a / 2048 * 2048

  abbrev place : ℕ
  place = p / 2048 * 2048

  abbrev once : List ℕ
  once = set kept n first

  abbrev written : List ℕ
  written = set once (8 + n) place

  beside : (x : ℕ) → (x ≡ n → ⊥) → (x ≡ 8 + n → ⊥) → get_or written x 0 ≡ get_or kept x 0
  beside x one two = get_or-set_other once (8 + n) x place 0 two ∙ get_or-set_other kept n x first 0 one

  here : by_words written n (8 + n) ≡ block_of a p
  here =
      let one : get_or written n 0 ≡ first = get_or-set_other once (8 + n) n place 0 (λ e. omega arith) ∙ get_or-set_same kept n first 0 (omega arith) in
      let two : get_or written (8 + n) 0 ≡ place = get_or-set_same once (8 + n) place 0 (simp length-set (omega arith)) in
      λ t. record { first = one t; place = two t }

  at_words : (P : Block → Type 0) (x y : ℕ) → (x ≡ n → y ≡ 8 + n) → (y ≡ 8 + n → x ≡ n) → (x ≡ 8 + n → ⊥) → (y ≡ n → ⊥)
      → (x ≡ n → P (block_of a p)) → P (by_words kept x y) → P (by_words written x y)
  at_words P x y to back one two new old = by_test (eqb x n) refl
    where
      by_test : (b : Bool) → eqb x n ≡ b → P (by_words written x y)
      by_test true e = let is = eqb-true x n e in rw (to is, is) (subst P (sym here) (new is))
      by_test false e =
          let same : by_words written x y ≡ by_words kept x y =
          λ t. record { first = beside x (eqb-false x n e) one t; place = beside y two (λ h. eqb-false x n e (back h)) t } in
          subst P (sym same) old

entered_all : (P : Bool → Block → Type 0) (kept : List ℕ) → length kept ≡ 32 → (store : Bool) (a p : ℕ) → P store (block_of a p) → All P kept
    → All P (entered kept store a p)
unfolding entered
entered_all P kept long false a p it all =
    let n : ℕ = entry_at false a in
    record {
      fetch = λ i few.
          at_words kept long n (omega arith) a p (P false) i (8 + i) (λ e. omega arith) (λ e. omega arith) (λ e. omega arith) (λ e. omega arith) (λ _. it) (all.fetch i few);
      store = λ i few.
          at_words kept long n (omega arith) a p (P true) (16 + i) (24 + i) (λ e. omega arith) (λ e. omega arith) (λ e. omega arith) (λ e. omega arith) (λ e. absurd (omega arith)) (all.store i few);
    }
entered_all P kept long true a p it all =
    let n : ℕ = entry_at true a in
    record {
      fetch = λ i few.
          at_words kept long n (omega arith) a p (P false) i (8 + i) (λ e. omega arith) (λ e. omega arith) (λ e. omega arith) (λ e. omega arith) (λ e. absurd (omega arith)) (all.fetch i few);
      store = λ i few.
          at_words kept long n (omega arith) a p (P true) (16 + i) (24 + i) (λ e. omega arith) (λ e. omega arith) (λ e. omega arith) (λ e. omega arith) (λ _. it) (all.store i few);
    }

-- The promises go over.

module _ (d : ℕ) (g : Guest) (psw : Psw) (control : Registers) (s k guard guard' kept kept' : List ℕ) where
  -- blocks are dropped, and the guard names more frames
  pub tables_dropped : Wider guard guard' → Fewer kept kept' → Free guard' kept' → Tables d g psw control s k guard kept guard' kept'
  tables_dropped wider fewer free =
      record {
        wider = wider;
        holds = λ holds t alike.
            let keeps = holds t (alike_narrower guard guard' s t wider alike) in
            let all = fewer_all (Leads g (host d t k) (seen psw control)) (λ b is e inside small low. absurd (omega (arith, is))) kept kept' fewer (record { fetch = keeps.fetch; store = keeps.store }) in
            record { fetch = all.fetch; store = all.store };
        inside = λ inside.
            let all = fewer_all (λ _ b. Holding b → Stands s b) (λ b is holding. absurd (omega (arith, is, holding))) kept kept' fewer (record { fetch = inside.fetch; store = inside.store }) in
            record { fetch = all.fetch; store = all.store };
        marks = λ marks.
            let all = fewer_all (λ store b. Holding b → HasMarks k store b) (λ b is holding. absurd (omega (arith, is, holding))) kept kept' fewer (record { fetch = marks.fetch; store = marks.store }) in
            record { fetch = all.fetch; store = all.store };
        free = λ _. free;
      }

  -- a block is entered that an access finds, with a guard that names the frames which decide the access
  pub tables_entered : (store : Bool) (a p : ℕ) → frames_of s ≤ length k → touch_of g (host d s k) (seen psw control) store a ≡ Ok p → Marked store (get_or k (p / 4096) 0)
      → ((t k : List ℕ) (store : Bool) → Alike guard' s t → touch_of g (host d t k) (seen psw control) store a ≡ touch_of g (host d s k) (seen psw control) store a)
      → (store ≡ true → get_or guard' (p / 4096 % 64) 0 ≡ 0) → length kept' ≡ 32 → Tables d g psw control s k guard kept guard' kept'
      → Tables d g psw control s k guard kept guard' (entered kept' store a p)
  tables_entered store a p each found marked decides clear long tables =
      record {
        wider = tables.wider;
        holds = λ holds t alike.
            let keeps = tables.holds holds t alike in
            let leads = leads_block g (host d t k) (seen psw control) store a p (decides t k store alike ∙ found) (block_of a p) refl refl in
            let all = entered_all (Leads g (host d t k) (seen psw control)) kept' long store a p leads (record { fetch = keeps.fetch; store = keeps.store }) in
            record { fetch = all.fetch; store = all.store };
        inside = λ before.
            let inside = tables.inside before in
            let all = entered_all (λ _ b. Holding b → Stands s b) kept' long store a p (λ _. stands.0) (record { fetch = inside.fetch; store = inside.store }) in
            record { fetch = all.fetch; store = all.store };
        marks = λ before.
            let marks = tables.marks before in
            let all = entered_all (λ store b. Holding b → HasMarks k store b) kept' long store a p (λ _. has) (record { fetch = marks.fetch; store = marks.store }) in
            record { fetch = all.fetch; store = all.store };
        free = λ before.
            let free = tables.free before in
            let all = entered_all (λ store b. store ≡ true → Holding b → get_or guard' (b.place / 4096 % 64) 0 ≡ 0) kept' long store a p (λ is _. rw frame (clear is))
            (record { fetch = λ i few no. absurd (never no); store = λ i few _. free i few }) in
            λ i few. all.store i few refl;
      }
    where
      stands : Stands s (block_of a p) × (p / 4096 < length k)
      stands = touch_stands g d s k (seen psw control) store a p each found (block_of a p) refl refl

      frame : p / 2048 * 2048 / 4096 ≡ p / 4096
      frame = omega arith

      has : HasMarks k store (block_of a p)
      has = record { keyed = rw frame stands.1; fetched = rw frame marked.0; stored = λ is. rw frame (marked.1 is) }

      never : false ≡ true → ⊥
      never e = let z : ◌≡◌ {A = ℕ} 0 1 = cc in omega arith
