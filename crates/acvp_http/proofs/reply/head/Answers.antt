use Rattle.std.proofs.Common.{codes, decimal, ap, ◌++◌, ◌∙◌, option_copied}
use Rattle.acvp_http.specs.Reply.{line, date_line, phrase_of}
use Rattle.acvp_http.proofs.ReplyLemmas.{head_pieces}
use Rattle.acvp_http.proofs.reply.head.Goals as goal

pub returns-clause-value : goal.returns-clause-value
returns-clause-value c =
    head_pieces (line (codes "HTTP/1.1 " ++ decimal c.args.status ++ codes " " ++ phrase_of c.args.status))
    (date_line (option_copied c.args.date)) (line (codes "Content-Type: application/json"))
    (codes "Content-Length: ") (decimal c.args.body_length)
    (line (codes "Connection: close")) c.args.extra_fields.now
    (codes "\r\n") c.push_date.new.text c.push.new.self c.push_number.new.self c.push-2.new.self c.push-3.new.self
    c.push-4.new.self
    (c.push_date.ensures.bytes
    ∙ ap (λ first. first ++ date_line (option_copied c.args.date)) c.status_line-text.ensures.value)
    c.push.ensures.bytes c.push_number.ensures.bytes c.push-2.ensures.bytes c.push-3.ensures.bytes
    c.push-4.ensures.bytes
