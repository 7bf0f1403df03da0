use Rattle.std.proofs.Common.{rules, ◌≡◌, true, false, Err}
use Rattle.tab_image.specs.Reading.{is_known}
use Rattle.tab_image.specs.Loading.{told}
use Rattle.tab_image.proofs.LoadLemmas.{load_stops, load_unknown, load_read, load_stops_behind}
use Rattle.tab_image.proofs.loading.read_image.Goals as goal

pub returns-in_err-version : goal.returns-in_err-version
returns-in_err-version g c =
    let is : c.from_residual.result ≡ Err (told c.in_err-version.field-0.0) = search rules in
    load_stops g.R.Input _ _ c.in_err-version.field-0.0 _ is c.in_err-version.ensures

pub returns-then-not-is_known : goal.returns-then-not-is_known
returns-then-not-is_known g c =
    let other : is_known c.in_ok-version.version ≡ false = search rules in
    load_unknown g.R.Input _ _ c.in_ok-version.version other c.in_ok-version.ensures

pub returns-in_err-image : goal.returns-in_err-image
returns-in_err-image g c =
    let known : is_known c.in_ok-version.version ≡ true = search rules in
    let is : c.from_residual-in_err-image.result ≡ Err (told c.in_err-image.field-0.0) = search rules in
    load_stops_behind g.R.Input _ _ _ c.in_ok-version.version c.in_err-image.field-0.0 _ known is c.in_ok-version.ensures c.in_err-image.ensures.read

pub returns : goal.returns
returns g c =
    let known : is_known c.in_ok-version.version ≡ true = search rules in
    load_read g.R.Input _ _ _ c.in_ok-version.version _ known c.in_ok-version.ensures c.in_ok-image.ensures.read c.in_ok-image.ensures.sane
