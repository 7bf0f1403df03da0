use Rattle.std.proofs.Common.{◌≡◌, ◌≤◌, ◌+◌, ℕ, List, length, ◌∙◌, ap, arith}
use Rattle.tab_journal.specs.Said.{header_in}
use Rattle.tab_journal.proofs.Appending.{torn_short}
use Rattle.tab_journal.proofs.Lengths.{length_header}
use Rattle.tab_journal.proofs.Moments.{started, goes_on}
use Rattle.tab_journal.proofs.beginning.put_header.Goals as goal

pub returns-in_err-append-clause-any_moment : goal.returns-in_err-append-clause-any_moment
returns-in_err-append-clause-any_moment g c =
    let P : List ℕ → Type 0 = λ f. length f ≤ 48 in
    let long : length c.as_slice.result.now ≡ 48 = ap length (c.as_slice.ensures.value ∙ c.in_ok-text.ensures) ∙ length_header (header_in c.args.header) in
    let short : length (g.D.Device.seen c.args.device.now) + length c.as_slice.result.now ≤ 48 = omega (arith, long, ap length c.requires.empty) in
    let here : (f : List ℕ) → g.D.Device.may_leave c.args.device.now f → P f = λ f now. omega (arith, ap length (c.requires.settled f now)) in
    let after : (f : List ℕ) → g.D.Device.may_leave c.append.new.self f → P f = torn_short _ _ 48 _ _ short c.requires.settled c.append.ensures.crash in
    let at_start = started g.D.Device.moment g.D.Device.left_since c.args.device.now P (λ f left. here f (g.met.D.Device.only_now c.args.device.now f left)) in
    goes_on g.D.Device.moment g.D.Device.left_since c.args.device.now c.args.device.now c.append.new.self P _ at_start c.append.ensures.time after

pub returns-in_err-sync-clause-any_moment : goal.returns-in_err-sync-clause-any_moment
returns-in_err-sync-clause-any_moment g c =
    let P : List ℕ → Type 0 = λ f. length f ≤ 48 in
    let long : length c.as_slice.result.now ≡ 48 = ap length (c.as_slice.ensures.value ∙ c.in_ok-text.ensures) ∙ length_header (header_in c.args.header) in
    let short : length (g.D.Device.seen c.args.device.now) + length c.as_slice.result.now ≤ 48 = omega (arith, long, ap length c.requires.empty) in
    let here : (f : List ℕ) → g.D.Device.may_leave c.args.device.now f → P f = λ f now. omega (arith, ap length (c.requires.settled f now)) in
    let after : (f : List ℕ) → g.D.Device.may_leave c.append.new.self f → P f = torn_short _ _ 48 _ _ short c.requires.settled c.append.ensures.crash in
    let at_start = started g.D.Device.moment g.D.Device.left_since c.args.device.now P (λ f left. here f (g.met.D.Device.only_now c.args.device.now f left)) in
    let behind = goes_on g.D.Device.moment g.D.Device.left_since c.args.device.now c.args.device.now c.append.new.self P _ at_start c.append.ensures.time after in
    goes_on g.D.Device.moment g.D.Device.left_since c.args.device.now c.append.new.self c.sync.new.self P _ behind c.sync.ensures.time (λ f now. after f (c.sync.ensures.crash f now))

pub returns-clause-any_moment : goal.returns-clause-any_moment
returns-clause-any_moment g c =
    let P : List ℕ → Type 0 = λ f. length f ≤ 48 in
    let long : length c.as_slice.result.now ≡ 48 = ap length (c.as_slice.ensures.value ∙ c.in_ok-text.ensures) ∙ length_header (header_in c.args.header) in
    let short : length (g.D.Device.seen c.args.device.now) + length c.as_slice.result.now ≤ 48 = omega (arith, long, ap length c.requires.empty) in
    let here : (f : List ℕ) → g.D.Device.may_leave c.args.device.now f → P f = λ f now. omega (arith, ap length (c.requires.settled f now)) in
    let after : (f : List ℕ) → g.D.Device.may_leave c.append.new.self f → P f = torn_short _ _ 48 _ _ short c.requires.settled c.append.ensures.crash in
    let at_start = started g.D.Device.moment g.D.Device.left_since c.args.device.now P (λ f left. here f (g.met.D.Device.only_now c.args.device.now f left)) in
    let behind = goes_on g.D.Device.moment g.D.Device.left_since c.args.device.now c.args.device.now c.append.new.self P _ at_start c.append.ensures.time after in
    goes_on g.D.Device.moment g.D.Device.left_since c.args.device.now c.append.new.self c.sync.new.self P _ behind c.sync.ensures.time (λ f now. after f (c.sync.ensures.crash f now))
