-- The setup of the worked examples can be met.
use mathlib.Core.Path.{refl}
use mathlib.Core.List.{List}
use Prim.Native.Nat.{ℕ}
use lib.ListN.{set, replicate}
use Rattle.machine.specs.Words.{word_at}
use Rattle.machine.specs.Record.{guest_of, psw_of, cpu_of}
use Rattle.machine.specs.Refusals.{wrong_length, wrong_version, wrong_storage, wrong_keys, used, wrong_interval, reserved_used, wrong_access, translate_verdict}
use Rattle.machine.specs.Entry.{mode_installed}
use Rattle.machine.specs.Host.{Host}
use Rattle.machine.specs.Examples.{Setup}

-- a record, a storage and keys of zeros, but for the fields and words that it names
pub setup_exists : (r : List ℕ) × (h : Host) × Setup r h
unfolding translate_verdict wrong_length wrong_version wrong_storage wrong_keys used wrong_interval reserved_used wrong_access guest_of cpu_of psw_of
    word_at mode_installed
setup_exists = (
  description,
  host,
  record {
    accepted = refl;
    designation = refl;
    segment = refl;
    page = refl;
    page_after = refl;
    frames = refl;
    mode = refl;
    origin = refl;
    extent = refl;
    prefix = refl;
    dat_off = refl;
    key = refl;
    bit32 = refl;
  },
)
  where
    description : List ℕ
    description = set (set (set (set (set (replicate 200 0) 1 200) 2 1) 4 8) 15 1) 20 0x80

    host : Host
    host = record {
      designation = 0x1000;
      storage = set (set (set (replicate 32768 0) 4098 0x20) 8194 0x30) 8198 0x04;
      keys = replicate 8 0;
    }
