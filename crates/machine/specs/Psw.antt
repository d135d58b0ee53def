-- What the PSW means, asked by name: SA22-7085, and document 01, "Before each unit", steps 2 and 3. Request 1/12: a System/370 guest's
-- PSW is GA22-7000's, in the form BC where bit 12 is zero and EC where it is one.
use Rattle.std.specs.Prelude.{ℕ, ◌+◌, ◌*◌, ◌%◌, ◌^◌, Bool, cond, not, ◌&&◌, ◌||◌, eqb, get_or, set}
use Rattle.machine.specs.declared.Cpu.{Cpu}
use Rattle.machine.specs.declared.Psw.{Psw}
use Rattle.machine.specs.Words.{bits, bit}

-- bit i of the PSW, 0 to 31
abbrev pub psw_bit : ℕ → Cpu → Bool
psw_bit i c = bit 32 i c.psw.left

-- the form of the PSW is BC
abbrev pub basic_control : Cpu → Bool
basic_control c = c.psw.system370 && not (psw_bit 12 c)

-- the form of the PSW is EC
abbrev pub extended_control : Cpu → Bool
extended_control c = c.psw.system370 && psw_bit 12 c

-- a BC PSW has no DAT: its bit 5 is a channel's mask
abbrev pub dat_on : Cpu → Bool
dat_on c = psw_bit 5 c && not (basic_control c)

-- BC: the mask of some channel, bits 0-6
abbrev pub io_enabled : Cpu → Bool
io_enabled c = cond (basic_control c) (not (eqb (bits 32 0 6 c.psw.left) 0)) (psw_bit 6 c)

abbrev pub external_enabled : Cpu → Bool
external_enabled c = psw_bit 7 c

abbrev pub access_key : Cpu → ℕ
access_key c = bits 32 8 11 c.psw.left

abbrev pub waiting : Cpu → Bool
waiting c = psw_bit 14 c

abbrev pub problem_state : Cpu → Bool
problem_state c = psw_bit 15 c

-- BC: bits 34-35
abbrev pub condition_code : Cpu → ℕ
condition_code c = cond (basic_control c) (bits 32 2 3 c.psw.right) (bits 32 18 19 c.psw.left)

-- BC: bit 36
abbrev pub overflow_enabled : Cpu → Bool
overflow_enabled c = cond (basic_control c) (bit 32 4 c.psw.right) (psw_bit 20 c)

-- PSW bit 32 of a 370-XA guest: addresses of 31 bits, else of 24
abbrev pub mode31 : Cpu → Bool
mode31 c = not c.psw.system370 && bit 32 0 c.psw.right

-- System/370: bits 40-63
abbrev pub instruction_address : Cpu → ℕ
instruction_address c = cond c.psw.system370 (bits 32 8 31 c.psw.right) (bits 32 1 31 c.psw.right)

-- what stands before the address in the right word, and stays: System/370 bits 32-39, 370-XA bit 32
abbrev pub before_address : Cpu → ℕ
before_address c = cond c.psw.system370 (bits 32 0 7 c.psw.right * 2 ^ 24) (bits 32 0 0 c.psw.right * 2 ^ 31)

-- EC: bit 1 (PER), 5 (DAT) or 16 (secondary space) is one; 370-XA: bit 1 or 16; BC never
unfoldable pub not_installed : Cpu → Bool
not_installed c =
    cond c.psw.system370 (psw_bit 12 c && (psw_bit 1 c || psw_bit 5 c || psw_bit 16 c)) (psw_bit 1 c || psw_bit 16 c)

-- bit 0, 2-4, 17 or 24-31 not zero
abbrev pub left_malformed : Cpu → Bool
left_malformed c =
    psw_bit 0 c || not (eqb (bits 32 2 4 c.psw.left) 0) || psw_bit 17 c || not (eqb (bits 32 24 31 c.psw.left) 0)

-- EC: so, or one of 32-39 one; 370-XA: so, or bit 12 not one, or bit 32 zero with one of 33-39 one; BC never
unfoldable pub malformed : Cpu → Bool
malformed c =
    cond c.psw.system370 (psw_bit 12 c && (left_malformed c || not (eqb (bits 32 0 7 c.psw.right) 0)))
    (left_malformed c || not (psw_bit 12 c) || (not (mode31 c) && not (eqb (bits 32 1 7 c.psw.right) 0)))

-- a logical address, wrapped at 2^24 or 2^31
unfoldable pub wrap : Cpu → ℕ → ℕ
wrap c a = cond (mode31 c) (a % 2 ^ 31) (a % 2 ^ 24)

unfoldable pub with_psw : Cpu → Psw → Cpu
with_psw c p = record { psw = p; timer = c.timer; control = c.control; general = c.general }

unfoldable pub with_timer : Cpu → ℕ → Cpu
with_timer c t = record { psw = c.psw; timer = t; control = c.control; general = c.general }

unfoldable pub with_control : Cpu → ℕ → ℕ → Cpu
with_control c i w = record {
  psw = c.psw;
  timer = c.timer;
  control = record { words = set c.control.words i w };
  general = c.general;
}

unfoldable pub with_general : Cpu → ℕ → ℕ → Cpu
with_general c i w = record {
  psw = c.psw;
  timer = c.timer;
  control = c.control;
  general = record { words = set c.general.words i w };
}

abbrev pub control : Cpu → ℕ → ℕ
control c i = get_or c.control.words i 0

abbrev pub general : Cpu → ℕ → ℕ
general c i = get_or c.general.words i 0

-- the PSW at another instruction address, cut to the addressing mode
unfoldable pub with_address : Cpu → ℕ → Cpu
with_address c a =
    with_psw c (record { left = c.psw.left; right = before_address c + wrap c a; system370 = c.psw.system370 })

-- past an instruction of so many halfwords
unfoldable pub advanced : Cpu → ℕ → Cpu
advanced c halfwords = with_address c (instruction_address c + 2 * halfwords)

-- in the left word, EC and 370-XA
abbrev pub code_in_left : Psw → ℕ → Psw
code_in_left p code = record {
  left = bits 32 0 17 p.left * 2 ^ 14 + code * 2 ^ 12 + bits 32 20 31 p.left;
  right = p.right;
  system370 = p.system370;
}

-- in the right word, BC
abbrev pub code_in_right : Psw → ℕ → Psw
code_in_right p code = record {
  left = p.left;
  right = bits 32 0 1 p.right * 2 ^ 30 + code * 2 ^ 28 + bits 32 4 31 p.right;
  system370 = p.system370;
}

unfoldable pub with_condition_code : Cpu → ℕ → Cpu
with_condition_code c code = with_psw c (cond (basic_control c) (code_in_right c.psw code) (code_in_left c.psw code))

-- the PSW that an interruption stores as the old one: in BC it has the interruption code in bits 16-31 and the ILC in bits 32-33
unfoldable pub old_psw : Cpu → ℕ → ℕ → Psw
old_psw c ilc code =
    cond (basic_control c)
    (record {
      left = bits 32 0 15 c.psw.left * 2 ^ 16 + code;
      right = ilc * 2 ^ 30 + bits 32 2 31 c.psw.right;
      system370 = Bool.true;
    })
    c.psw
