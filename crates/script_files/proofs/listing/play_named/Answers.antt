use Rattle.script_files.proofs.listing.play_named.Goals as goal

pub returns-clause-otherwise : goal.returns-clause-otherwise
returns-clause-otherwise g c =
    λ is. (
      c.in_ok-script.script.items,
      c.in_ok-told.told.items,
      c.in-Differs._difference,
      c.in_ok-script.ensures,
      c.in_ok-told.ensures,
      rw (c.in-Differs.is, c.as_slice.ensures.value, c.as_slice-2.ensures.value) at c.in_ok-outcome.ensures,
    )
