use Rattle.std.proofs.Common.{rules}
use Rattle.tab_image.specs.Streams.{Stops, text_of}
use Rattle.tab_image.proofs.NumberLemmas.{four_read, four_first, four_second, four_third, four_fourth}
use Rattle.tab_image.proofs.taking.read_each_of_four.Goals as goal

pub returns-in_err-first : goal.returns-in_err-first
returns-in_err-first g c =
    let stop : Stops g.R.Input c.args.input.now c.read_byte.new.input (text_of 4) c.in_err-first.field-0.0 = four_first g.R.Input _ _ _ c.in_err-first.ensures in
    search (rules, stop)

pub returns-in_err-second : goal.returns-in_err-second
returns-in_err-second g c =
    let stop : Stops g.R.Input c.args.input.now c.read_byte-2.new.input (text_of 4) c.in_err-second.field-0.0 = four_second g.R.Input _ _ _ _ _ c.in_ok-first.ensures c.in_err-second.ensures in
    search (rules, stop)

pub returns-in_err-third : goal.returns-in_err-third
returns-in_err-third g c =
    let stop : Stops g.R.Input c.args.input.now c.read_byte-3.new.input (text_of 4) c.in_err-third.field-0.0 = four_third g.R.Input _ _ _ _ _ _ _ c.in_ok-first.ensures c.in_ok-second.ensures c.in_err-third.ensures in
    search (rules, stop)

pub returns-in_err-fourth : goal.returns-in_err-fourth
returns-in_err-fourth g c =
    let stop : Stops g.R.Input c.args.input.now c.read_byte-4.new.input (text_of 4) c.in_err-fourth.field-0.0 = four_fourth g.R.Input _ _ _ _ _ _ _ _ _ c.in_ok-first.ensures c.in_ok-second.ensures c.in_ok-third.ensures c.in_err-fourth.ensures in
    search (rules, stop)

pub returns : goal.returns
returns g c = four_read g.R.Input _ _ _ _ _ _ _ _ _ c.in_ok-first.ensures c.in_ok-second.ensures c.in_ok-third.ensures c.in_ok-fourth.ensures
