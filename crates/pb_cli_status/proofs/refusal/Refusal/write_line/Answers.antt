use Rattle.std.proofs.Common.{sym}
use Rattle.pb_cli_status.proofs.refusal.Refusal.write_line.Goals as goal

pub returns-in-Usage-clause-whole : goal.returns-in-Usage-clause-whole
returns-in-Usage-clause-whole g c = rw c.in-Usage.is c.write_all.ensures.whole

pub returns-in-Usage-clause-front : goal.returns-in-Usage-clause-front
returns-in-Usage-clause-front g c = rw c.in-Usage.is c.write_all.ensures.front

pub returns-in-Usage-clause-fault : goal.returns-in-Usage-clause-fault
returns-in-Usage-clause-fault g c = c.write_all.ensures.fault

pub returns-in-Usage-clause-later : goal.returns-in-Usage-clause-later
returns-in-Usage-clause-later g c = c.write_all.ensures.later

pub returns-in-ReadFault-clause-whole : goal.returns-in-ReadFault-clause-whole
returns-in-ReadFault-clause-whole g c = rw c.in-ReadFault.is c.write_all-in-ReadFault.ensures.whole

pub returns-in-ReadFault-clause-front : goal.returns-in-ReadFault-clause-front
returns-in-ReadFault-clause-front g c = rw c.in-ReadFault.is c.write_all-in-ReadFault.ensures.front

pub returns-in-ReadFault-clause-fault : goal.returns-in-ReadFault-clause-fault
returns-in-ReadFault-clause-fault g c = c.write_all-in-ReadFault.ensures.fault

pub returns-in-ReadFault-clause-later : goal.returns-in-ReadFault-clause-later
returns-in-ReadFault-clause-later g c = c.write_all-in-ReadFault.ensures.later

pub returns-in-FileBytes-clause-whole : goal.returns-in-FileBytes-clause-whole
returns-in-FileBytes-clause-whole g c = rw c.in-FileBytes.is c.write_all-in-FileBytes.ensures.whole

pub returns-in-FileBytes-clause-front : goal.returns-in-FileBytes-clause-front
returns-in-FileBytes-clause-front g c = rw c.in-FileBytes.is c.write_all-in-FileBytes.ensures.front

pub returns-in-FileBytes-clause-fault : goal.returns-in-FileBytes-clause-fault
returns-in-FileBytes-clause-fault g c = c.write_all-in-FileBytes.ensures.fault

pub returns-in-FileBytes-clause-later : goal.returns-in-FileBytes-clause-later
returns-in-FileBytes-clause-later g c = c.write_all-in-FileBytes.ensures.later

pub returns-in-NoMemory-clause-whole : goal.returns-in-NoMemory-clause-whole
returns-in-NoMemory-clause-whole g c = rw c.in-NoMemory.is c.write_all-in-NoMemory.ensures.whole

pub returns-in-NoMemory-clause-front : goal.returns-in-NoMemory-clause-front
returns-in-NoMemory-clause-front g c = rw c.in-NoMemory.is c.write_all-in-NoMemory.ensures.front

pub returns-in-NoMemory-clause-fault : goal.returns-in-NoMemory-clause-fault
returns-in-NoMemory-clause-fault g c = c.write_all-in-NoMemory.ensures.fault

pub returns-in-NoMemory-clause-later : goal.returns-in-NoMemory-clause-later
returns-in-NoMemory-clause-later g c = c.write_all-in-NoMemory.ensures.later

pub returns-in-Syntax-clause-whole : goal.returns-in-Syntax-clause-whole
returns-in-Syntax-clause-whole g c = rw c.in-Syntax.is c.write_at.ensures.whole

pub returns-in-Syntax-clause-front : goal.returns-in-Syntax-clause-front
returns-in-Syntax-clause-front g c = rw c.in-Syntax.is c.write_at.ensures.front

pub returns-in-Syntax-clause-fault : goal.returns-in-Syntax-clause-fault
returns-in-Syntax-clause-fault g c = c.write_at.ensures.fault

pub returns-in-Syntax-clause-later : goal.returns-in-Syntax-clause-later
returns-in-Syntax-clause-later g c = c.write_at.ensures.later

pub returns-in-Limit-clause-whole : goal.returns-in-Limit-clause-whole
returns-in-Limit-clause-whole g c = rw (c.in-Limit.is, sym c.limit_words.ensures) c.write_at-in-Limit.ensures.whole

pub returns-in-Limit-clause-front : goal.returns-in-Limit-clause-front
returns-in-Limit-clause-front g c = rw (c.in-Limit.is, sym c.limit_words.ensures) c.write_at-in-Limit.ensures.front

pub returns-in-Limit-clause-fault : goal.returns-in-Limit-clause-fault
returns-in-Limit-clause-fault g c = c.write_at-in-Limit.ensures.fault

pub returns-in-Limit-clause-later : goal.returns-in-Limit-clause-later
returns-in-Limit-clause-later g c = c.write_at-in-Limit.ensures.later

pub returns-in-Breakpoints-clause-whole : goal.returns-in-Breakpoints-clause-whole
returns-in-Breakpoints-clause-whole g c = rw c.in-Breakpoints.is c.write_all-in-Breakpoints.ensures.whole

pub returns-in-Breakpoints-clause-front : goal.returns-in-Breakpoints-clause-front
returns-in-Breakpoints-clause-front g c = rw c.in-Breakpoints.is c.write_all-in-Breakpoints.ensures.front

pub returns-in-Breakpoints-clause-fault : goal.returns-in-Breakpoints-clause-fault
returns-in-Breakpoints-clause-fault g c = c.write_all-in-Breakpoints.ensures.fault

pub returns-in-Breakpoints-clause-later : goal.returns-in-Breakpoints-clause-later
returns-in-Breakpoints-clause-later g c = c.write_all-in-Breakpoints.ensures.later

pub returns-in-Broken-clause-whole : goal.returns-in-Broken-clause-whole
returns-in-Broken-clause-whole g c = rw c.in-Broken.is c.write_broken.ensures.whole

pub returns-in-Broken-clause-front : goal.returns-in-Broken-clause-front
returns-in-Broken-clause-front g c = rw c.in-Broken.is c.write_broken.ensures.front

pub returns-in-Broken-clause-fault : goal.returns-in-Broken-clause-fault
returns-in-Broken-clause-fault g c = c.write_broken.ensures.fault

pub returns-in-Broken-clause-later : goal.returns-in-Broken-clause-later
returns-in-Broken-clause-later g c = c.write_broken.ensures.later

pub returns-in-KernelMarker-clause-whole : goal.returns-in-KernelMarker-clause-whole
returns-in-KernelMarker-clause-whole g c = rw c.in-KernelMarker.is c.write_number.ensures.whole

pub returns-in-KernelMarker-clause-front : goal.returns-in-KernelMarker-clause-front
returns-in-KernelMarker-clause-front g c = rw c.in-KernelMarker.is c.write_number.ensures.front

pub returns-in-KernelMarker-clause-fault : goal.returns-in-KernelMarker-clause-fault
returns-in-KernelMarker-clause-fault g c = c.write_number.ensures.fault

pub returns-in-KernelMarker-clause-later : goal.returns-in-KernelMarker-clause-later
returns-in-KernelMarker-clause-later g c = c.write_number.ensures.later

pub returns-in-Kernel-clause-whole : goal.returns-in-Kernel-clause-whole
returns-in-Kernel-clause-whole g c = rw c.in-Kernel.is c.write_kernel.ensures.whole

pub returns-in-Kernel-clause-front : goal.returns-in-Kernel-clause-front
returns-in-Kernel-clause-front g c = rw c.in-Kernel.is c.write_kernel.ensures.front

pub returns-in-Kernel-clause-fault : goal.returns-in-Kernel-clause-fault
returns-in-Kernel-clause-fault g c = c.write_kernel.ensures.fault

pub returns-in-Kernel-clause-later : goal.returns-in-Kernel-clause-later
returns-in-Kernel-clause-later g c = c.write_kernel.ensures.later

pub returns-in-Text-clause-whole : goal.returns-in-Text-clause-whole
returns-in-Text-clause-whole g c = rw c.in-Text.is c.write_at-in-Text.ensures.whole

pub returns-in-Text-clause-front : goal.returns-in-Text-clause-front
returns-in-Text-clause-front g c = rw c.in-Text.is c.write_at-in-Text.ensures.front

pub returns-in-Text-clause-fault : goal.returns-in-Text-clause-fault
returns-in-Text-clause-fault g c = c.write_at-in-Text.ensures.fault

pub returns-in-Text-clause-later : goal.returns-in-Text-clause-later
returns-in-Text-clause-later g c = c.write_at-in-Text.ensures.later

pub returns-in-Schedule-clause-whole : goal.returns-in-Schedule-clause-whole
returns-in-Schedule-clause-whole g c = rw c.in-Schedule.is c.write_number-in-Schedule.ensures.whole

pub returns-in-Schedule-clause-front : goal.returns-in-Schedule-clause-front
returns-in-Schedule-clause-front g c = rw c.in-Schedule.is c.write_number-in-Schedule.ensures.front

pub returns-in-Schedule-clause-fault : goal.returns-in-Schedule-clause-fault
returns-in-Schedule-clause-fault g c = c.write_number-in-Schedule.ensures.fault

pub returns-in-Schedule-clause-later : goal.returns-in-Schedule-clause-later
returns-in-Schedule-clause-later g c = c.write_number-in-Schedule.ensures.later

pub returns-in-Events-clause-whole : goal.returns-in-Events-clause-whole
returns-in-Events-clause-whole g c = rw c.in-Events.is c.write_all-in-Events.ensures.whole

pub returns-in-Events-clause-front : goal.returns-in-Events-clause-front
returns-in-Events-clause-front g c = rw c.in-Events.is c.write_all-in-Events.ensures.front

pub returns-in-Events-clause-fault : goal.returns-in-Events-clause-fault
returns-in-Events-clause-fault g c = c.write_all-in-Events.ensures.fault

pub returns-in-Events-clause-later : goal.returns-in-Events-clause-later
returns-in-Events-clause-later g c = c.write_all-in-Events.ensures.later

pub returns-in-OutOfRange-clause-whole : goal.returns-in-OutOfRange-clause-whole
returns-in-OutOfRange-clause-whole g c = rw c.in-OutOfRange.is c.write_outside.ensures.whole

pub returns-in-OutOfRange-clause-front : goal.returns-in-OutOfRange-clause-front
returns-in-OutOfRange-clause-front g c = rw c.in-OutOfRange.is c.write_outside.ensures.front

pub returns-in-OutOfRange-clause-fault : goal.returns-in-OutOfRange-clause-fault
returns-in-OutOfRange-clause-fault g c = c.write_outside.ensures.fault

pub returns-in-OutOfRange-clause-later : goal.returns-in-OutOfRange-clause-later
returns-in-OutOfRange-clause-later g c = c.write_outside.ensures.later

pub returns-in-Ranks-clause-whole : goal.returns-in-Ranks-clause-whole
returns-in-Ranks-clause-whole g c = rw c.in-Ranks.is c.write_all-in-Ranks.ensures.whole

pub returns-in-Ranks-clause-front : goal.returns-in-Ranks-clause-front
returns-in-Ranks-clause-front g c = rw c.in-Ranks.is c.write_all-in-Ranks.ensures.front

pub returns-in-Ranks-clause-fault : goal.returns-in-Ranks-clause-fault
returns-in-Ranks-clause-fault g c = c.write_all-in-Ranks.ensures.fault

pub returns-in-Ranks-clause-later : goal.returns-in-Ranks-clause-later
returns-in-Ranks-clause-later g c = c.write_all-in-Ranks.ensures.later

pub returns-in-WordsInFlight-clause-whole : goal.returns-in-WordsInFlight-clause-whole
returns-in-WordsInFlight-clause-whole g c = rw c.in-WordsInFlight.is c.write_all-in-WordsInFlight.ensures.whole

pub returns-in-WordsInFlight-clause-front : goal.returns-in-WordsInFlight-clause-front
returns-in-WordsInFlight-clause-front g c = rw c.in-WordsInFlight.is c.write_all-in-WordsInFlight.ensures.front

pub returns-in-WordsInFlight-clause-fault : goal.returns-in-WordsInFlight-clause-fault
returns-in-WordsInFlight-clause-fault g c = c.write_all-in-WordsInFlight.ensures.fault

pub returns-in-WordsInFlight-clause-later : goal.returns-in-WordsInFlight-clause-later
returns-in-WordsInFlight-clause-later g c = c.write_all-in-WordsInFlight.ensures.later

pub returns-in-Turns-clause-whole : goal.returns-in-Turns-clause-whole
returns-in-Turns-clause-whole g c = rw c.in-Turns.is c.write_number-in-Turns.ensures.whole

pub returns-in-Turns-clause-front : goal.returns-in-Turns-clause-front
returns-in-Turns-clause-front g c = rw c.in-Turns.is c.write_number-in-Turns.ensures.front

pub returns-in-Turns-clause-fault : goal.returns-in-Turns-clause-fault
returns-in-Turns-clause-fault g c = c.write_number-in-Turns.ensures.fault

pub returns-in-Turns-clause-later : goal.returns-in-Turns-clause-later
returns-in-Turns-clause-later g c = c.write_number-in-Turns.ensures.later

pub returns-in-Pieces-clause-whole : goal.returns-in-Pieces-clause-whole
returns-in-Pieces-clause-whole g c = rw c.in-Pieces.is c.write_all-in-Pieces.ensures.whole

pub returns-in-Pieces-clause-front : goal.returns-in-Pieces-clause-front
returns-in-Pieces-clause-front g c = rw c.in-Pieces.is c.write_all-in-Pieces.ensures.front

pub returns-in-Pieces-clause-fault : goal.returns-in-Pieces-clause-fault
returns-in-Pieces-clause-fault g c = c.write_all-in-Pieces.ensures.fault

pub returns-in-Pieces-clause-later : goal.returns-in-Pieces-clause-later
returns-in-Pieces-clause-later g c = c.write_all-in-Pieces.ensures.later

pub returns-in-Call-clause-whole : goal.returns-in-Call-clause-whole
returns-in-Call-clause-whole g c = rw (c.in-Call.is, sym c.call_words.ensures) c.write_at-in-Call.ensures.whole

pub returns-in-Call-clause-front : goal.returns-in-Call-clause-front
returns-in-Call-clause-front g c = rw (c.in-Call.is, sym c.call_words.ensures) c.write_at-in-Call.ensures.front

pub returns-in-Call-clause-fault : goal.returns-in-Call-clause-fault
returns-in-Call-clause-fault g c = c.write_at-in-Call.ensures.fault

pub returns-in-Call-clause-later : goal.returns-in-Call-clause-later
returns-in-Call-clause-later g c = c.write_at-in-Call.ensures.later

pub returns-in-Strip-clause-whole : goal.returns-in-Strip-clause-whole
returns-in-Strip-clause-whole g c = rw (c.in-Strip.is, sym c.strip_words.ensures) c.write_at-in-Strip.ensures.whole

pub returns-in-Strip-clause-front : goal.returns-in-Strip-clause-front
returns-in-Strip-clause-front g c = rw (c.in-Strip.is, sym c.strip_words.ensures) c.write_at-in-Strip.ensures.front

pub returns-in-Strip-clause-fault : goal.returns-in-Strip-clause-fault
returns-in-Strip-clause-fault g c = c.write_at-in-Strip.ensures.fault

pub returns-in-Strip-clause-later : goal.returns-in-Strip-clause-later
returns-in-Strip-clause-later g c = c.write_at-in-Strip.ensures.later

pub returns-in-CostLoop-clause-whole : goal.returns-in-CostLoop-clause-whole
returns-in-CostLoop-clause-whole g c = rw c.in-CostLoop.is c.write_at-in-CostLoop.ensures.whole

pub returns-in-CostLoop-clause-front : goal.returns-in-CostLoop-clause-front
returns-in-CostLoop-clause-front g c = rw c.in-CostLoop.is c.write_at-in-CostLoop.ensures.front

pub returns-in-CostLoop-clause-fault : goal.returns-in-CostLoop-clause-fault
returns-in-CostLoop-clause-fault g c = c.write_at-in-CostLoop.ensures.fault

pub returns-in-CostLoop-clause-later : goal.returns-in-CostLoop-clause-later
returns-in-CostLoop-clause-later g c = c.write_at-in-CostLoop.ensures.later

pub returns-in-LogDiffers-clause-whole : goal.returns-in-LogDiffers-clause-whole
returns-in-LogDiffers-clause-whole g c = rw c.in-LogDiffers.is c.write_ruling.ensures.whole

pub returns-in-LogDiffers-clause-front : goal.returns-in-LogDiffers-clause-front
returns-in-LogDiffers-clause-front g c = rw c.in-LogDiffers.is c.write_ruling.ensures.front

pub returns-in-LogDiffers-clause-fault : goal.returns-in-LogDiffers-clause-fault
returns-in-LogDiffers-clause-fault g c = c.write_ruling.ensures.fault

pub returns-in-LogDiffers-clause-later : goal.returns-in-LogDiffers-clause-later
returns-in-LogDiffers-clause-later g c = c.write_ruling.ensures.later

pub returns-in-LogBeyond-clause-whole : goal.returns-in-LogBeyond-clause-whole
returns-in-LogBeyond-clause-whole g c = rw c.in-LogBeyond.is c.write_ruling-in-LogBeyond.ensures.whole

pub returns-in-LogBeyond-clause-front : goal.returns-in-LogBeyond-clause-front
returns-in-LogBeyond-clause-front g c = rw c.in-LogBeyond.is c.write_ruling-in-LogBeyond.ensures.front

pub returns-in-LogBeyond-clause-fault : goal.returns-in-LogBeyond-clause-fault
returns-in-LogBeyond-clause-fault g c = c.write_ruling-in-LogBeyond.ensures.fault

pub returns-in-LogBeyond-clause-later : goal.returns-in-LogBeyond-clause-later
returns-in-LogBeyond-clause-later g c = c.write_ruling-in-LogBeyond.ensures.later

pub returns-in-LogMalformed-clause-whole : goal.returns-in-LogMalformed-clause-whole
returns-in-LogMalformed-clause-whole g c = rw c.in-LogMalformed.is c.write_malformed.ensures.whole

pub returns-in-LogMalformed-clause-front : goal.returns-in-LogMalformed-clause-front
returns-in-LogMalformed-clause-front g c = rw c.in-LogMalformed.is c.write_malformed.ensures.front

pub returns-in-LogMalformed-clause-fault : goal.returns-in-LogMalformed-clause-fault
returns-in-LogMalformed-clause-fault g c = c.write_malformed.ensures.fault

pub returns-in-LogMalformed-clause-later : goal.returns-in-LogMalformed-clause-later
returns-in-LogMalformed-clause-later g c = c.write_malformed.ensures.later
