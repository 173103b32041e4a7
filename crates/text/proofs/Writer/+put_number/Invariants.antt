use Rattle.text.proofs.Writer.+put_number.Given as goal

-- each call is for a tenth of the number
abbrev pub decreases-put_number : goal.decreases-put_number
decreases-put_number l = l.number
