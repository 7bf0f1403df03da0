use Rattle.std.proofs.Common.{◌≡◌, List, ◌∙◌, sym, ap, subst}
use Rattle.std.specs.Prelude.{OnOk}
use Rattle.tab_key.specs.KeyOf.{key_of}
use Rattle.tab_key.specs.Records.{Record}
use Rattle.tab_iter.specs.Lists.{from_key}
use Rattle.tab_session.specs.LowEnds.{from_low}
use Rattle.tab_session.proofs.InRange.{from_least}
use Rattle.tab_session.proofs.rows.seek_low.Goals as goal

pub returns-in-Unbounded-clause-rest : goal.returns-in-Unbounded-clause-rest
returns-in-Unbounded-clause-rest g c =
    let w : List Record = g.S.Source.whole c.args.source.now in
    let all : from_key (key_of c.row_start.result) w ≡ from_low c.args.low.now w =
    ap (λ k. from_key k w) c.row_start.ensures ∙ from_least w (g.met.S.Source.has_i64_timestamps c.args.source.now) ∙ ap (λ b. from_low b w) (sym c.in-Unbounded.is) in
    subst (λ (l : List Record). OnOk c.seek.result (g.S.Source.rest c.seek.new.self ≡ l)) all c.seek.ensures.rest
