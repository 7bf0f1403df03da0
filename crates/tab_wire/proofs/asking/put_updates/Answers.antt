use Rattle.std.proofs.Common.{rules, ℕ, ◌++◌, length, subst}
use Rattle.std.specs.List.{flat_map}
use Rattle.tab_io.specs.Writing.{HasPut, HasPutPart}
use Rattle.tab_io.proofs.Putting.{puts_more, part_longer}
use Rattle.tab_wire.specs.Replies.{u32}
use Rattle.tab_wire.specs.Sending.{update_bytes}
use Rattle.tab_wire.proofs.asking.put_updates.Goals as goal

pub returns : goal.returns
returns g c = puts_more g.W.Output c.args.output.now c.put_length.new.output c.put_each_update.new.output (u32 (length c.args.mutation.now.updates)) (flat_map update_bytes c.args.mutation.now.updates) c.put_each_update.result (subst (λ (n : ℕ). HasPut g.W.Output c.args.output.now c.put_length.new.output (u32 n)) c.len.ensures c.in_ok-put_length.ensures) c.put_each_update.ensures

pub returns-in_err-put_length : goal.returns-in_err-put_length
returns-in_err-put_length g c =
    let part : HasPutPart g.W.Output c.args.output.now c.put_length.new.output ((u32 (length c.args.mutation.now.updates)) ++ (flat_map update_bytes c.args.mutation.now.updates)) = part_longer {t = u32 (length c.args.mutation.now.updates)} (flat_map update_bytes c.args.mutation.now.updates) (subst (λ (n : ℕ). HasPutPart g.W.Output c.args.output.now c.put_length.new.output (u32 n)) c.len.ensures c.in_err-put_length.ensures) in
    search (rules, part)
