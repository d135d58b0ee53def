-- A lap, turn by turn.
-- Assumes nothing.
use Rattle.std.proofs.Common.{◌≡◌, ℕ, suc, ◌+◌, ◌-◌, ◌%◌, ◌^◌, ◌<◌, ◌≤◌, Bool, true, false, cond, eqb, List, length, get_or, set, sym, refl, ap, ◌∙◌, subst, ⊎_elim, arith}
use mathlib.Core.Path.{transport}
use lib.Seq.{set_out}
use Rattle.machine.specs.declared.Guest.{Guest}
use Rattle.machine.specs.declared.Psw.{Psw}
use Rattle.machine.specs.declared.Registers.{Registers}
use Rattle.machine.specs.Psw.{condition_code, overflow_enabled, mode31, instruction_address}
use Rattle.machine.specs.Record.{Sixteen}
use Rattle.machine.specs.Host.{host}
use Rattle.address.specs.Touching.{seen}
use Rattle.guard.specs.Guarding.{Alike}
use Rattle.psws.specs.Psws.{state, psw_at, Wrapped}
use Rattle.psws.proofs.Placed.{rewrapped, at_start, left_at, system370_at}
use Rattle.sums.specs.Summing.{code_in}
use Rattle.sums.proofs.Codes.{small-code_in}
use Rattle.blocks.specs.Keeping.{Block, Leads, Keeps, Holds, Stands, Inside, HasMarks, Marks, Free}
use Rattle.blocks.proofs.Holding.{alike_same, alike_trans, keeps_state, inside_on}
use Rattle.lap.specs.declared.Landing.{Landing}
use Rattle.lap.specs.declared.Lap.{Lap}
use Rattle.lap.specs.declared.Step.{Step}
use Rattle.lap.specs.Stepping.{Spot, nowhere, cut, psw_in, psw_after, Ground, Top, Stepped, Lands}
use Rattle.lap.specs.Lapping.{stance, Goes, none, more, Laps}
use Rattle.lap.proofs.Placing.{cut_is_wrap}

-- a guest that begins a lap, on a host that keeps the blocks
pub record Begins (kept : List ℕ) (long trap : Bool) (address sum : ℕ) (storage : List ℕ) (p : Psw) (g : Guest) (designation : ℕ) (keys guard : List ℕ) (control : Registers) : Type 0 where
  pub left : p.left < 2 ^ 32
  pub right : p.right < 2 ^ 32
  pub traps : trap ≡ overflow_enabled (state p)
  pub mode : long ≡ mode31 (state p)
  pub code : condition_code (state p) ≡ code_in sum
  pub wrapped : Wrapped p (instruction_address (state p))
  pub at : instruction_address (state p) ≡ address
  pub marks : Marks keys kept
  pub free : Free guard kept
  pub holds : Holds guard g (host designation storage keys) (seen p control) kept

-- so many units have led to here, for each of them
abbrev pub Reached : List ℕ → Bool → Bool → ℕ → ℕ → List ℕ → List ℕ → ℕ → (Psw → Psw) → List ℕ → List ℕ → Type 0
Reached kept long trap address sum₀ words₀ storage₀ units psw words storage =
    (p : Psw) (g : Guest) (designation : ℕ) (keys guard : List ℕ) (control : Registers) → Begins kept long trap address sum₀ storage₀ p g designation keys guard control
    → Goes p g designation keys control (stance p words₀ storage₀) units (stance (psw p) words storage) × Alike guard storage₀ storage

-- the PSW at a place of a block
abbrev pub standing : ℕ → ℕ → ℕ → ℕ → Psw → Psw
standing page base at sum p = psw_at p (page + (at - base)) (code_in sum)

-- the block of the text is an entry of the table
pub record Text (kept : List ℕ) (long : Bool) (page base : ℕ) : Type 0 where
  pub entry : ℕ
  pub few : entry < 8
  pub first : page ≡ get_or kept entry 0
  pub place : base ≡ get_or kept (8 + entry) 0
  pub low : page < 2147483648
  pub uncut : cut long page ≡ page

-- a place in it, where the next instruction may stand
pub record Place (base at : ℕ) : Type 0 where
  pub from : base ≤ at
  pub to : at ≤ base + 2048
  pub even : (at - base) % 2 ≡ 0

-- the last branch out of reach led to a place in it
pub record Target (long : Bool) (page base top target : ℕ) : Type 0 where
  pub leads : top < nowhere → cut long top ≡ page + (target - base)
  pub from : top < nowhere → base ≤ target
  pub within : top < nowhere → target < base + 2048
  pub even : top < nowhere → (target - base) % 2 ≡ 0

-- the loop's invariant
pub record Lapped (kept : List ℕ) (long trap : Bool) (address sum₀ : ℕ) (words₀ storage₀ : List ℕ) (most : ℕ) (storage words : List ℕ) (sum page base last at top target n : ℕ) : Type 0 where
  pub few : n ≤ most
  pub length : length storage ≡ length storage₀
  pub sixteen : Sixteen words
  pub text : Text kept long page base
  pub place : Place base at
  pub end : last ≡ base + 2044
  pub aim : Target long page base top target
  pub reached : Reached kept long trap address sum₀ words₀ storage₀ (most - n) (standing page base at sum) words storage

-- an address that is cut is not cut again
pub cut_cut : (long : Bool) (a : ℕ) → cut long (cut long a) ≡ cut long a
cut_cut true a = omega arith
cut_cut false a = omega arith

module _ (kept : List ℕ) (long trap : Bool) (address sum₀ : ℕ) (words₀ storage₀ : List ℕ) where
  -- the invariant, of equal numbers
  pub lapped_as : (most n : ℕ) (storage words words' : List ℕ) (sum sum' page page' base base' last last' at at' top top' target target' : ℕ)
      → words ≡ words' → sum ≡ sum' → page ≡ page' → base ≡ base' → last ≡ last' → at ≡ at' → top ≡ top' → target ≡ target'
      → Lapped kept long trap address sum₀ words₀ storage₀ most storage words' sum' page' base' last' at' top' target' n
      → Lapped kept long trap address sum₀ words₀ storage₀ most storage words sum page base last at top target n
  lapped_as most n storage words words' sum sum' page page' base base' last last' at at' top top' target target' w s p b l a o g =
      transport (λ i. Lapped kept long trap address sum₀ words₀ storage₀ most storage (sym w i) (sym s i) (sym p i) (sym b i) (sym l i) (sym a i) (sym o i) (sym g i) n)

  -- the address of a place, cut to the mode, says the same PSW
  cut_same : (p : Psw) → long ≡ mode31 (state p) → (a code : ℕ) → psw_at p (cut long a) code ≡ psw_at p a code
  cut_same p mode a code = ap (λ w. psw_at p w code) (cut_is_wrap p long mode a) ∙ rewrapped p a code

  -- before the first unit
  pub begun : (l : Landing) → Lands kept address l → Reached kept long trap address sum₀ words₀ storage₀ 0 (standing l.page l.base l.at sum₀) words₀ storage₀
  begun l lands p g designation keys guard control begins =
      let here : l.page + (l.at - l.base) ≡ instruction_address (state p) = omega (arith, lands.from, lands.at, begins.at) in
      let own : p ≡ standing l.page l.base l.at sum₀ p =
      sym ((λ i. psw_at p (here i) (sym begins.code i)) ∙ at_start p begins.left begins.right begins.wrapped) in
      (subst (λ q. Goes p g designation keys control (stance p words₀ storage₀) 0 (stance q words₀ storage₀)) own none, alike_same guard storage₀)

  -- where no unit is done
  pub nowhere_gone : (a : ℕ) → a ≡ address → Reached kept long trap address sum₀ words₀ storage₀ 0 (λ p. psw_at p a (code_in sum₀)) words₀ storage₀
  nowhere_gone a is p g designation keys guard control begins =
      let own : p ≡ psw_at p a (code_in sum₀) =
      sym ((λ i. psw_at p ((is ∙ sym begins.at) i) (sym begins.code i)) ∙ at_start p begins.left begins.right begins.wrapped) in
      (subst (λ q. Goes p g designation keys control (stance p words₀ storage₀) 0 (stance q words₀ storage₀)) own none, alike_same guard storage₀)

  -- the text of an entry that was found
  pub landed : (l : Landing) (a : ℕ) → a < 2147483648 → cut long a ≡ a → Lands kept a l → Text kept long l.page l.base × Place l.base l.at
  landed l a small whole lands = (
    record { entry = lands.entry; few = lands.few; first = lands.page; place = lands.base; low = omega (arith, lands.from); uncut = by_mode long whole },
    record { from = omega (arith, lands.at); to = omega (arith, lands.at, lands.within); even = omega (arith, lands.at, lands.even) },
  )
    where
      by_mode : (b : Bool) → cut b a ≡ a → cut b l.page ≡ l.page
      by_mode true whole = omega (arith, lands.from)
      by_mode false whole = omega (arith, lands.from)

  module _ (inside : Inside storage₀ kept) (storage words : List ℕ) (Long-as : length storage ≡ length storage₀) (sixteen : Sixteen words)
      (sum page base at top target units : ℕ) (text : Text kept long page base) (place : Place base at) (fits : at + 4 ≤ base + 2048) (leads : Target long page base top target)
      (reached : Reached kept long trap address sum₀ words₀ storage₀ units (standing page base at sum) words storage)
      (s : Step) (storage' : List ℕ) (stepped : Stepped storage kept at sum words trap long top target s storage') (alike : (guard : List ℕ) → Free guard kept → Alike guard storage storage') where
    abbrev spot : Psw → Spot
    spot p = record { psw = p; text = record { first = page; place = base } }

    own_block : (P : Block → Type 0) → P (record { first = get_or kept text.entry 0; place = get_or kept (8 + text.entry) 0 }) → P (record { first = page; place = base })
    own_block P holds = subst P (λ i. record { first = sym text.first i; place = sym text.place i }) holds

    module _ (p : Psw) (g : Guest) (designation : ℕ) (keys guard : List ℕ) (control : Registers) (begins : Begins kept long trap address sum₀ storage₀ p g designation keys guard control) where
      ground : Ground storage keys kept (spot p) at
      ground =
          let holding : get_or kept text.entry 0 < 2147483648 = omega (arith, text.first, text.low) in record {
            left = begins.left;
            right = begins.right;
            inside = inside_on storage₀ storage Long-as kept inside;
            marks = begins.marks;
            text = own_block (Stands storage) ((inside_on storage₀ storage Long-as kept inside).fetch text.entry text.few holding);
            text_marks = own_block (HasMarks keys false) (begins.marks.fetch text.entry text.few holding);
            low = text.low;
            wrapped = sym (cut_is_wrap p long begins.mode page) ∙ text.uncut;
            from = place.from;
            whole = fits;
            even = place.even;
          }

      tops : Top (spot p) top target
      tops = record {
        leads = λ near. sym (cut_is_wrap p long begins.mode top) ∙ leads.leads near;
        from = leads.from;
        within = leads.within;
        even = leads.even;
      }

      keeps : Keeps g (host designation storage keys) (seen (psw_in (spot p) at sum) control) kept
      keeps =
          let here = seen (psw_in (spot p) at sum) control in
          let a = page + (at - base) in
          keeps_state g (host designation storage keys) (seen p control) here kept (begins.holds storage (reached p g designation keys guard control begins).1)
          (record {
            left = left_at p begins.left begins.right a (code_in sum) (small-code_in sum) here refl;
            system370 = system370_at p begins.left begins.right a (code_in sum) (small-code_in sum) here refl;
          }) refl

      gone : Goes p g designation keys control (stance p words₀ storage₀) (suc units) (stance (psw_after (spot p) s) (set words s.register s.value) storage') × Alike guard storage₀ storage'
      gone =
          let (here, before) = reached p g designation keys guard control begins in (
            more here (record { address = page + (at - base); code = code_in sum; small = small-code_in sum; own = refl; sixteen = sixteen })
                (stepped.unit keys (spot p) ground tops begins.traps begins.mode g designation control keeps
                (own_block (Leads g (host designation storage keys) (seen (psw_in (spot p) at sum) control) false) (keeps.fetch text.entry text.few))),
            alike_trans guard storage₀ storage storage' before (alike guard begins.free),
          )

    -- a turn that is done stands in the block, or at its end
    pub turned : s.want ≡ 0 → Reached kept long trap address sum₀ words₀ storage₀ (suc units) (standing page base s.at s.sum) (set words s.register s.value) storage'
    unfolding psw_after
    turned done p g designation keys guard control begins =
        let (goes, same) = gone p g designation keys guard control begins in
        let psw : psw_after (spot p) s ≡ standing page base s.at s.sum p = ap (λ w. psw_at p (cond (eqb w 1) s.a (page + (s.at - base))) (code_in s.sum)) done in
        (subst (λ q. Goes p g designation keys control (stance p words₀ storage₀) (suc units) (stance q (set words s.register s.value) storage')) psw goes, same)

    -- a turn that jumped
    pub jumped_to : s.want ≡ 1 → Reached kept long trap address sum₀ words₀ storage₀ (suc units) (λ p. psw_at p s.a (code_in s.sum)) words storage'
    unfolding psw_after
    jumped_to jumps p g designation keys guard control begins =
        let (goes, same) = gone p g designation keys guard control begins in
        let psw : psw_after (spot p) s ≡ psw_at p s.a (code_in s.sum) = ap (λ w. psw_at p (cond (eqb w 1) s.a (page + (s.at - base))) (code_in s.sum)) jumps in
        let unset : set words s.register s.value ≡ words = set_out words s.register s.value (omega (arith, (stepped.stays jumps).1, sixteen.long)) in (
          subst (λ q. Goes p g designation keys control (stance p words₀ storage₀) (suc units) (stance q words storage')) psw
              (subst (λ w. Goes p g designation keys control (stance p words₀ storage₀) (suc units) (stance (psw_after (spot p) s) w storage')) unset goes),
          same,
        )

    -- the next place
    pub onward : s.want ≡ 0 → Place base s.at
    onward done =
        ⊎_elim (λ two. record { from = omega (arith, two, place.from); to = omega (arith, two); even = omega (arith, two, place.from, place.even) })
        (⊎_elim (λ four. record { from = omega (arith, four, place.from); to = omega (arith, four); even = omega (arith, four, place.from, place.even) })
        (λ back. record {
          from = omega (arith, back.0, leads.from back.1);
          to = omega (arith, back.0, leads.within back.1);
          even = ap (λ a. (a - base) % 2) back.0 ∙ leads.even back.1;
        }))
        (stepped.onward done)

  -- the text's block stands in storage
  pub stands_here : Inside storage₀ kept → (page base : ℕ) → Text kept long page base → Stands storage₀ (record { first = page; place = base })
  stands_here inside page base text =
      subst (Stands storage₀) (λ i. record { first = sym text.first i; place = sym text.place i })
      (inside.fetch text.entry text.few (omega (arith, text.first, text.low)))

  -- no branch yet, and a branch out of reach that landed

  pub no_target : (page base : ℕ) → Target long page base nowhere 0
  no_target page base = record {
    leads = λ (near : nowhere < nowhere). absurd (omega arith);
    from = λ (near : nowhere < nowhere). absurd (omega arith);
    within = λ (near : nowhere < nowhere). absurd (omega arith);
    even = λ (near : nowhere < nowhere). absurd (omega arith);
  }

  pub target_found : (l : Landing) (a top : ℕ) → cut long top ≡ a → Lands kept a l → Target long l.page l.base top l.at
  target_found l a top cuts lands = record {
    leads = λ _. cuts ∙ here;
    from = λ _. omega (arith, lands.at);
    within = λ _. omega (arith, lands.at, lands.within);
    even = λ _. omega (arith, lands.at, lands.even);
  }
    where
      here : a ≡ l.page + (l.at - l.base)
      here = omega (arith, lands.at, lands.from)

  module _ (words storage : List ℕ) (units : ℕ) where
    -- the address cut to the mode
    pub cut_standing : (page base at sum : ℕ) → Reached kept long trap address sum₀ words₀ storage₀ units (standing page base at sum) words storage
        → Reached kept long trap address sum₀ words₀ storage₀ units (λ p. psw_at p (cut long (page + (at - base))) (code_in sum)) words storage
    cut_standing page base at sum reached p g designation keys guard control begins =
        subst (λ q. Goes p g designation keys control (stance p words₀ storage₀) units (stance q words storage) × Alike guard storage₀ storage)
        (sym (cut_same p begins.mode (page + (at - base)) (code_in sum))) (reached p g designation keys guard control begins)

    -- a jump that landed, and one that did not

    pub jump_landed : (l : Landing) (a b sum : ℕ) → cut long b ≡ a → Lands kept a l → Reached kept long trap address sum₀ words₀ storage₀ units (λ p. psw_at p b (code_in sum)) words storage
        → Reached kept long trap address sum₀ words₀ storage₀ units (standing l.page l.base l.at sum) words storage
    jump_landed l a b sum cuts lands reached p g designation keys guard control begins =
        let here : a ≡ l.page + (l.at - l.base) = omega (arith, lands.at, lands.from) in
        subst (λ q. Goes p g designation keys control (stance p words₀ storage₀) units (stance q words storage) × Alike guard storage₀ storage)
        (sym (cut_same p begins.mode b (code_in sum)) ∙ ap (λ w. psw_at p w (code_in sum)) (cuts ∙ here)) (reached p g designation keys guard control begins)

    pub jump_cut : (a b sum : ℕ) → cut long b ≡ a → Reached kept long trap address sum₀ words₀ storage₀ units (λ p. psw_at p b (code_in sum)) words storage
        → Reached kept long trap address sum₀ words₀ storage₀ units (λ p. psw_at p a (code_in sum)) words storage
    jump_cut a b sum cuts reached p g designation keys guard control begins =
        subst (λ q. Goes p g designation keys control (stance p words₀ storage₀) units (stance q words storage) × Alike guard storage₀ storage)
        (sym (cut_same p begins.mode b (code_in sum)) ∙ ap (λ w. psw_at p w (code_in sum)) cuts) (reached p g designation keys guard control begins)

    -- so a lap ends
    pub laps_so : (psw : Psw) → psw.left < 2 ^ 32 → psw.right < 2 ^ 32 → trap ≡ overflow_enabled (state psw) → long ≡ mode31 (state psw) → condition_code (state psw) ≡ code_in sum₀
        → address ≡ cut long (instruction_address (state psw)) → (r : Lap) → r.units ≡ units → (a sum : ℕ) → r.address ≡ a → r.code ≡ code_in sum
        → Reached kept long trap address sum₀ words₀ storage₀ units (λ p. psw_at p a (code_in sum)) words storage → Laps kept psw words₀ storage₀ r words storage
    laps_so psw left right traps mode code at r many a sum there coded reached g designation keys guard control wrapped marks free holds =
        subst (λ u. Goes psw g designation keys control (stance psw words₀ storage₀) u (stance (psw_at psw r.address r.code) words storage) × Alike guard storage₀ storage) (sym many)
        (subst (λ q. Goes psw g designation keys control (stance psw words₀ storage₀) units (stance q words storage) × Alike guard storage₀ storage) (λ i. psw_at psw (sym there i) (sym coded i))
        (reached psw g designation keys guard control (record {
          left = left;
          right = right;
          traps = traps;
          mode = mode;
          code = code;
          wrapped = wrapped;
          at = sym (at ∙ cut_is_wrap psw long mode (instruction_address (state psw)) ∙ wrapped);
          marks = marks;
          free = free;
          holds = holds;
        })))
