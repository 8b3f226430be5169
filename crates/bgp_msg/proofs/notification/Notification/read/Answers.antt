use Rattle.std.proofs.Common.{◌≡◌, List, ℕ, rules, arith, ap, ◌∙◌}
use Rattle.std.proofs.lemmas.Grind.{common_steps}
use Rattle.std.proofs.lemmas.List.{take-take}
use Rattle.bgp_msg.specs.Notifications.{NotificationBody, notification_body, notification_told, telling}
use Rattle.bgp_msg.proofs.notification.Notification.read.Goals as goal

-- what was written comes back
told_back : (told : NotificationBody) → notification_told (notification_body told) ≡ telling told.code told.subcode told.octets
unfolding notification_body
told_back told = ap (λ octets. record { code = told.code; subcode = told.subcode; octets = octets }) (take-take 4075 4075 told.octets (omega arith))

back : (body : List ℕ) (result : NotificationBody) (told : NotificationBody) → result ≡ notification_told body → body ≡ notification_body told → result ≡ telling told.code told.subcode told.octets
back body result told is same = is ∙ ap notification_told same ∙ told_back told

pub returns-in-empty-clause-written : goal.returns-in-empty-clause-written
returns-in-empty-clause-written c = λ told same. back c.args.body.now c.tell.result told (search rules) same

pub returns-in-len1-clause-written : goal.returns-in-len1-clause-written
returns-in-len1-clause-written c = λ told same. back c.args.body.now c.tell-in-len1.result told (search rules) same

pub returns-in-len2-up-clause-written : goal.returns-in-len2-up-clause-written
returns-in-len2-up-clause-written c = λ told same. back c.args.body.now c.tell-in-len2-up.result told (grind (arith, common_steps)) same
