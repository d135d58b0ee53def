-- A text on a kept block.
use Rattle.std.specs.Prelude.{ℕ, ◌/◌, None, Some}
use Rattle.machine.specs.declared.Cpu.{Cpu}
use Rattle.machine.specs.declared.Psw.{Psw}
use Rattle.machine.specs.declared.Registers.{Registers}
use Rattle.machine.specs.declared.Text.{Text}
use Rattle.machine.specs.Opcodes.{length_of}
use Rattle.interruptions.specs.declared.Done.{Done}
use Rattle.interruptions.specs.declared.Event.TheVariants as event
use Rattle.interruptions.specs.declared.Frames.{Frames}
use Rattle.interruptions.specs.declared.Frames.TheVariants as frames
use Rattle.blocks.specs.Keeping.{Block}

-- a text of one halfword or two
abbrev pub short_text : ℕ → ℕ → Text
short_text first second = record { ilc = length_of first; first = first; second = second; third = 0 }

-- the frame of a text
abbrev pub text_frame : Block → Frames
text_frame b = frames.One (b.place / 4096)

-- a completed unit that leaves this PSW and sets one general register, or none (16)
abbrev pub done_with : Cpu → Psw → ℕ → ℕ → Done
done_with c psw register value =
    record { event = event.Completed; psw = psw; timer = c.timer; control = c.control; set = Some (register, value) }

-- a completed unit that leaves this PSW, this CPU timer and these control registers, and the general registers as they are
abbrev pub done_as : Psw → ℕ → Registers → Done
done_as psw timer control = record { event = event.Completed; psw = psw; timer = timer; control = control; set = None }
