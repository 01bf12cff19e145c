-- A line as a JSON object.
use Rattle.std.specs.Prelude.{codes, option_map}
use Rattle.serde_json.specs.Data.{Data, object, member, no_members, string, number, boolean, unsigned}
use Rattle.acvp_json.specs.Nullable.{number_or_null, text_or_null}
use Rattle.acvp_log.specs.declared.object.Shown.{Shown}

-- the members ascend, as in a reply, and each is there
abbrev pub shown_data : Shown → Data
shown_data t =
    object (member (codes "account") (number_or_null t.account)
    (member (codes "action") (text_or_null (option_map (λ a. a.now) t.action))
    (member (codes "because") (text_or_null (option_map (λ b. b.now) t.because))
    (member (codes "milliseconds") (number (unsigned t.milliseconds))
    (member (codes "result") (text_or_null (option_map (λ r. r.now) t.result))
    (member (codes "sent") (boolean t.sent)
    (member (codes "status") (number_or_null t.status)
    (member (codes "subject") (number_or_null t.subject)
    (member (codes "time") (string t.time.now) no_members)))))))))
