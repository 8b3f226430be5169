use Rattle.std.proofs.Common.{◌≡◌, [], ◌∙◌, refl}
use Rattle.std.specs.Rc.{rc_slice_items}
use Rattle.rtr_cache.proofs.WholeVersions.{lacked_by_nothing}
use Rattle.rtr_cache.proofs.response.Response.of_version.Goals as goal

pub returns : goal.returns
returns g c =
    let none : rc_slice_items c.in_ok-withdrawn.withdrawn ≡ [] = c.in_ok-withdrawn.ensures ∙ c.new.ensures.items in
    let all : rc_slice_items c.in_ok-announced.announced ≡ c.args.version.now.set = c.in_ok-announced.ensures in
    rw (c.of_lists.ensures, none, all, c.serial.ensures, lacked_by_nothing c.args.version.now.set) refl
