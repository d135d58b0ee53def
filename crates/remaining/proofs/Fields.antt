-- The interval timer's fields and the state, put into the record in either order, and put into it twice.
-- Assumes nothing.
use Prim.Native.Nat.{ℕ, ◌*◌, ◌≤◌}
use native.Mathlib.Omega.{arith}
use mathlib.Core.Path.{◌≡◌, refl, ap, ◌∙◌}
use mathlib.Core.List.{List, [], ◌∷◌}
use mathlib.Core.Logic.{inl}
use lib.ListN.{length, set}
use lib.Seq.{sets, take_all, set-set}
use Rattle.machine.specs.declared.Cpu.{Cpu}
use Rattle.machine.specs.Words.{word_bytes, double_bytes, words_bytes}
use Rattle.machine.specs.Record.{psw_at, timer_at, control_at, general_at, request_at, residue_at, psw_bytes, register_bytes, with_cpu, with_request, with_interval, Bounded}
use Rattle.machine.proofs.Laws.{set-sets, sets_comm, sets-sets}
use Rattle.machine.proofs.Words.{length-words_bytes}

-- the bytes of sixteen registers
sixteen_words : (ws : List ℕ) → length ws ≡ 16 → length (register_bytes ws) ≡ 64
sixteen_words ws sixteen =
    ap (λ (l : List ℕ). length (words_bytes l)) (take_all 16 ws (omega arith)) ∙ length-words_bytes ws ∙ ap (λ n. 4 * n) sixteen

-- bytes behind the registers
behind_registers : (c : Cpu) → Bounded c → (r : List ℕ) (j : ℕ) (vs : List ℕ) → request_at ≤ j → sets (with_cpu c r) j vs ≡ with_cpu c (sets r j vs)
unfolding with_cpu
behind_registers c bounded r j vs behind =
    sets_comm (sets timed control_at controls) general_at generals j vs (inl (omega (arith, sixteen_words c.general.words bounded.general.long)))
    ∙ ap (λ (t : List ℕ). sets t general_at generals)
    (sets_comm timed control_at controls j vs (inl (omega (arith, sixteen_words c.control.words bounded.control.long)))
    ∙ ap (λ (t : List ℕ). sets t control_at controls)
    (sets_comm (sets r psw_at psw) timer_at timer j vs (inl (omega arith))
    ∙ ap (λ (t : List ℕ). sets t timer_at timer) (sets_comm r psw_at psw j vs (inl (omega arith)))))
  where
    psw : List ℕ
    psw = psw_bytes c.psw

    timer : List ℕ
    timer = double_bytes c.timer

    controls : List ℕ
    controls = register_bytes c.control.words

    generals : List ℕ
    generals = register_bytes c.general.words

    timed : List ℕ
    timed = sets (sets r psw_at psw) timer_at timer

pub with_interval-with_cpu : (request residue : ℕ) (c : Cpu) → Bounded c → (r : List ℕ)
    → with_interval request residue (with_cpu c r) ≡ with_cpu c (with_interval request residue r)
unfolding with_interval with_request
with_interval-with_cpu request residue c bounded r =
    ap (λ (t : List ℕ). sets t residue_at (word_bytes residue)) (behind_registers c bounded r request_at (request ∷ []) (omega arith))
    ∙ behind_registers c bounded (set r request_at request) residue_at (word_bytes residue) (omega arith)

-- a request byte behind the fields is one of them
pub with_request-with_interval : (later request residue : ℕ) (r : List ℕ) → with_request later (with_interval request residue r) ≡ with_interval later residue r
unfolding with_interval with_request
with_request-with_interval later request residue r =
    set-sets (set r request_at request) request_at later residue_at (word_bytes residue) (inl (omega arith))
    ∙ ap (λ (t : List ℕ). sets t residue_at (word_bytes residue)) (set-set r request_at request later)

pub with_interval-with_interval : (later after request residue : ℕ) (r : List ℕ)
    → with_interval later after (with_interval request residue r) ≡ with_interval later after r
unfolding with_interval
with_interval-with_interval later after request residue r =
    ap (λ (t : List ℕ). sets t residue_at (word_bytes after)) (with_request-with_interval later request residue r)
    ∙ sets-sets (with_request later r) residue_at (word_bytes residue) (word_bytes after) refl
