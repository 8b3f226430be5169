use Rattle.std.proofs.Common.{map, sym, ◌∙◌}
use Rattle.slurm_files.proofs.NameLists.{good_name, name_in, named_in_map, second_name, unknown_name}
use Rattle.slurm_files.proofs.names.name_fault.Goals as goal

pub returns-then-not-is_known : goal.returns-then-not-is_known
returns-then-not-is_known g c =
    unknown_name c.args.known.now c.args.place c.args.name.now (map name_in c.args.behind.now) (sym c.is_known.ensures ∙ c.if-not-is_known.true)

pub returns-then-is_named : goal.returns-then-is_named
returns-then-is_named g c =
    second_name c.args.known.now c.args.place c.args.name.now (map name_in c.args.behind.now) (sym c.is_known.ensures ∙ c.if-not-is_known.false)
    (sym (named_in_map name_in c.args.behind.now c.args.name.now) ∙ sym c.is_named.ensures ∙ c.if-is_named.true)

pub returns : goal.returns
returns g c =
    good_name c.args.known.now c.args.place c.args.name.now (map name_in c.args.behind.now) (sym c.is_known.ensures ∙ c.if-not-is_known.false)
    (sym (named_in_map name_in c.args.behind.now c.args.name.now) ∙ sym c.is_named.ensures ∙ c.if-is_named.false)
