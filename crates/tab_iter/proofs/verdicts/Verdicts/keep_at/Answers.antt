-- One verdict more, at its place, on the label that was put behind the others.
use Rattle.std.proofs.Common.{rules, ◌≡◌, ◌∙◌, ap}
use Rattle.std.specs.List.{insert}
use Rattle.tab_iter.specs.declared.verdicts.Verdict.{Verdict}
use Rattle.tab_iter.proofs.KeptVerdicts.{sound_more}
use Rattle.tab_iter.proofs.verdicts.Verdicts.keep_at.Goals as goal

pub returns : goal.returns
returns c =
    let j : Verdict = record { start = c.len-start.result; end = c.len-end.result; holds = c.args.holds } in
    let kept : c.insert.new.self.items ≡ insert c.args.self.now.kept.items c.args.place j = c.in_ok-insert.ensures.items ∙ ap (λ js. insert js c.args.place j) (search rules) in
    let start : c.len-start.result ≡ _ = search rules in
    let end : c.len-end.result ≡ _ = search rules in
    λ auths h s. (sound_more auths c.args.self.now.body.items c.args.label.now _ c.args.self.now.kept.items _ c.args.place j c.in_ok-extend_from_slice.ensures.items kept start end h s.0, s.1)
