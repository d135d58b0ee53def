-- `interruptions::interrupt_open` meets its contract. What is stored in the frame's part is stored at the frame's address.
use mathlib.Core.Path.{ap, ◌∙◌}
use Rattle.machine.specs.Host.{referenced, changed}
use Rattle.marks.specs.Marks.{mark_frame}
use Rattle.interruptions.proofs.Leaving.{areas_in_frame}
use Rattle.interruptions.proofs.interrupt_open.Goals as goal

pub returns : goal.returns
returns c =
    let a = c.args in record {
      value = c.psw_at-new.ensures;
      storage_after = λ k same. rw (c.put_areas.ensures k same) (areas_in_frame a.storage.now a.frame k a.i c.requires.in_prefix_page.0 c.requires.in_prefix_page.1);
      keys_after = c.mark_areas.ensures ∙ ap (λ k. mark_frame changed a.frame (mark_frame referenced a.frame k)) c.mark_text.ensures;
    }
