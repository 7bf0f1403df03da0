use Rattle.std.proofs.Common.{◌≡◌, length, inr, ◌∙◌, codes}
use Rattle.tab_io.proofs.Putting.{put_more, put_part_more}
use Rattle.tab_shell.proofs.batches.put_taken.Goals as goal

pub returns-in-Ok-put : goal.returns-in-Ok-put
returns-in-Ok-put g c = (
  λ (e : length c.args.cells ≡ 1000). c.if-len.false (c.len.ensures ∙ e),
  put_more {u = codes "end\n"} c.in-Ok.ensures (record { bytes = c.in-Ok-put.ensures.bytes; faults = c.in-Ok-put.ensures.faults }),
)

pub returns : goal.returns
returns g c =
    inr (
      λ (e : length c.args.cells ≡ 1000). c.if-len.false (c.len.ensures ∙ e),
      put_part_more {u = codes "end\n"} c.in-Ok.ensures (record { bytes = c.in-Err-put.ensures.bytes; failed = c.in-Err-put.ensures.faults }),
    )
