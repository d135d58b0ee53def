-- Each instruction with its operand on a kept block, by numbers: the unit of the definition.
-- Assumes nothing.
use Prim.Native.Nat.{ℕ, ◌+◌, ◌-◌, ◌/◌, ◌%◌, ◌≤◌, ◌<◌}
use native.Mathlib.Omega.{arith}
use mathlib.Core.Path.{◌≡◌, refl, ap, sym, ◌∙◌}
use mathlib.Core.List.{List, ◌++◌}
use lib.ListN.{length, take, drop}
use Rattle.machine.specs.declared.Cpu.{Cpu}
use Rattle.machine.specs.declared.Guest.{Guest}
use Rattle.machine.specs.declared.Psw.{Psw}
use Rattle.machine.specs.Words.{double_at, double_bytes}
use Rattle.machine.specs.Record.{psw_of}
use Rattle.machine.specs.Psw.{with_psw, with_timer, advanced, with_condition_code}
use Rattle.machine.specs.Opcodes.{length_of}
use Rattle.machine.specs.Time.{guest_clock}
use Rattle.machine.specs.Execute.{next, load_psw, store_clock, set_timer, store_timer}
use Rattle.interruptions.specs.declared.Event.TheVariants as event
use Rattle.interruptions.proofs.Leaving.{none_set, past_it}
use Rattle.reader.proofs.Parts.{part_double, part_psw}
use Rattle.loads.proofs.Fetching.{timer_loaded, psw_loaded}
use Rattle.stores.proofs.Storing.{over_code}
use Rattle.blocks.specs.Keeping.{fetch_block}
use Rattle.places.specs.Placing.{Spot}
use Rattle.steps.specs.Texting.{done_as}
use Rattle.steps.proofs.Completing.{set_unset}
use Rattle.special.specs.declared.Done.{Done}
use Rattle.special.specs.Performing.{psw_in, Performs, Always, AtClock, AtTimer}
use Rattle.special.specs.Storing.{Stored}
use Rattle.special.proofs.Performing.{performs_fetched, performs-stored}
use Rattle.special.proofs.Leaving.{past_psw, coded_psw}

-- the length of an instruction of two halfwords
two_past : (first : ℕ) → length_of first ≡ 2 → (psw : Psw) (k : Cpu) → psw ≡ (advanced k 2).psw → psw ≡ (advanced k (length_of first)).psw
two_past first two psw k moved = moved ∙ ap (λ n. (advanced k n).psw) (sym two)

module _ (kept storage : List ℕ) (psw : Psw) (a : ℕ) (small : a < 2147483648) where
  module _ (p : ℕ) (spot : Spot (fetch_block kept (a / 2048 % 8)) a 8 p) (fits : p + 8 ≤ length storage) where
    abbrev operand : List ℕ
    operand = take 8 (drop p storage) ++ take (8 - 8) (drop 0 storage)

    -- LOAD PSW (LPSW)
    pub psw_performed : (new : Psw) → new ≡ psw_of psw.system370 storage p
        → Performs kept psw a storage Always load_psw (λ c. done_as new c.timer c.control) storage
    unfolding load_psw
    psw_performed new loads guard h g x clock c text first second begun _ =
        let done = done_as new c.timer c.control in
        performs_fetched kept storage guard psw a h g x clock c text first second begun small 8 p (omega arith) spot refl
        (λ bytes. with_psw x.cpu (psw_of x.cpu.psw.system370 bytes 0)) done refl
        (psw_loaded h x begun.standing done new operand (set_unset c new)
        (loads ∙ ap (λ q. psw_of q.system370 storage p) (sym begun.of_psw)
        ∙ sym (part_psw storage (take (8 - 8) (drop 0 storage)) p 8 fits c.psw.system370 (omega arith))))

    -- SET CPU TIMER (SPT)
    pub timer_performed : (past : Psw) (timer : ℕ) → ((c : Cpu) → c.psw ≡ psw → past ≡ (advanced c 2).psw) → timer ≡ double_at storage p
        → Performs kept psw a storage Always set_timer (λ c. done_as past timer c.control) storage
    unfolding set_timer with_psw with_timer
    timer_performed past timer moves loads guard h g x clock c text first second begun _ =
        let done = done_as past timer c.control in
        performs_fetched kept storage guard psw a h g x clock c text first second begun small 8 p (omega arith) spot refl
        (λ bytes. next x (with_timer x.cpu (double_at bytes 0))) done refl
        (timer_loaded h x begun.standing done past operand timer (none_set c event.Completed past timer c.control)
        (λ k same. two_past first begun.two past k (moves k (same ∙ begun.of_psw)))
        (loads ∙ sym (part_double storage (take (8 - 8) (drop 0 storage)) p 8 fits (omega arith))))

  module _ (past : Psw) (value : ℕ) (d : Done) (storage' : List ℕ) (stored : Stored kept past a (double_bytes value) d storage storage') where
    -- STORE CLOCK (STCK)
    pub clock_performed : (epoch now : ℕ) → ((g : Guest) → g.epoch ≡ epoch → value ≡ guest_clock g now)
        → ((c : Cpu) → c.psw ≡ psw → past ≡ (advanced (with_condition_code c 0) 2).psw)
        → Performs kept psw a storage (AtClock epoch now) store_clock (λ c. done_as (psw_in d psw) c.timer c.control) storage'
    unfolding store_clock
    clock_performed epoch now reads moves =
        rw (stored.put, coded_psw psw past 2 0 moves d stored.left stored.right) λ guard h g x clock c text first second begun (of-epoch, of-clock).
        let standing = begun.standing in
        performs-stored kept storage guard psw a h g x clock c text first second begun small 8 stored.place (omega arith) stored.spot stored.high (double_bytes value) refl
        (ap double_bytes (reads g of-epoch ∙ (λ i. guest_clock (sym standing.of_guest i) (sym (standing.of_clock ∙ of-clock) i))))
        (next x (with_condition_code x.cpu 0)) (done_as past c.timer c.control) refl
        (set_unset c past ∙ over_code c 0 past
        ∙ past_it h x standing (with_condition_code c 0) past (two_past first begun.two past (with_condition_code c 0) (moves c begun.of_psw))
        ∙ ap (λ k. next x (with_condition_code k 0)) (sym standing.of_cpu))

    -- STORE CPU TIMER (STPT)
    pub timer_stored : ((c : Cpu) → c.psw ≡ psw → past ≡ (advanced c 2).psw)
        → Performs kept psw a storage (AtTimer value) store_timer (λ c. done_as (psw_in d psw) c.timer c.control) storage'
    unfolding store_timer
    timer_stored moves =
        rw (stored.put, past_psw psw past 2 moves d stored.left stored.right) λ guard h g x clock c text first second begun is.
        let standing = begun.standing in
        performs-stored kept storage guard psw a h g x clock c text first second begun small 8 stored.place (omega arith) stored.spot stored.high (double_bytes value) refl
        (ap double_bytes (sym (ap (λ k. k.timer) standing.of_cpu ∙ is)))
        (next x x.cpu) (done_as past c.timer c.control) refl
        (set_unset c past ∙ past_it h x standing c past (two_past first begun.two past c (moves c begun.of_psw)) ∙ ap (next x) (sym standing.of_cpu))
