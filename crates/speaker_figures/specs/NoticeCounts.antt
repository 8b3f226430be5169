-- NOTIFICATIONs by their error code (RFC 4271 section 4.5).
use Rattle.std.specs.Prelude.{◌+◌, ◌^◌, ◌-◌, ◌==◌, ℕ, min, if◌then◌else◌}
use Rattle.speaker_figures.specs.declared.notices.Notices.{Notices}

abbrev pub none_counted : Notices
none_counted = record { header = 0; open_message = 0; update = 0; hold_timer = 0; state_machine = 0; cease = 0; other = 0 }

-- one more, up to the greatest u64
abbrev pub one_more : ℕ → ℕ
one_more count = min (count + 1) (2 ^ 64 - 1)

-- one more of this code
abbrev pub counting : ℕ → Notices → Notices
counting code n =
    if code == 1 then (record n { header = one_more n.header })
    else (if code == 2 then (record n { open_message = one_more n.open_message })
    else (if code == 3 then (record n { update = one_more n.update })
    else (if code == 4 then (record n { hold_timer = one_more n.hold_timer })
    else (if code == 5 then (record n { state_machine = one_more n.state_machine })
    else (if code == 6 then (record n { cease = one_more n.cease }) else (record n { other = one_more n.other }))))))
