use Rattle.plan_file.proofs.OneWay.{newer, older, one_text}
use Rattle.plan_file.proofs.encoding.spelling_law.Goals as goal

pub returns-clause-one : goal.returns-clause-one
returns-clause-one c = one_text

pub returns-clause-newer : goal.returns-clause-newer
returns-clause-newer c = newer

pub returns-clause-older : goal.returns-clause-older
returns-clause-older c = older
