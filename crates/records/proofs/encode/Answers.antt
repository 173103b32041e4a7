use Rattle.std.proofs.Common.{rules}
use Rattle.records.proofs.Turns.{encoded_made}
use Rattle.records.proofs.encode.Goals as goal

pub returns : goal.returns
returns c =
    encoded_made _ _ _ _ _ _ _ _ _ _ _ (search rules) (search rules) (search rules) (search rules) (search rules) c.args.point c.args.w _ _ _
    c.number_bytes.ensures c.mask_bytes.ensures c.mask_bytes-2.ensures c.flags.ensures c.flagged.ensures c.codes.ensures c.lay.ensures.bytes_after
    c.lay-2.ensures.bytes_after
    c.lay-3.ensures.bytes_after c.lay-4.ensures.bytes_after c.lay-5.ensures.bytes_after (search (rules, c.lay-5.ensures.long)) c.fingerprint-fingerprint.ensures
    c.number_bytes-2.ensures
    c.lay-6.ensures.bytes_after
