use Rattle.service.proofs.Estates.{number_replied}
use Rattle.service.proofs.take.Goals as goal

pub returns-in-Born : goal.returns-in-Born
returns-in-Born g c = rw c.in-Born.is (record { replied = λ ok. number_replied _ _ _ _ _ _ _ (c.bear.ensures.served ok) c.put_number.ensures.put })

pub returns-in-Wed : goal.returns-in-Wed
returns-in-Wed g c = rw c.in-Wed.is (record { replied = λ ok. number_replied _ _ _ _ _ _ _ (c.wed.ensures.served ok) c.put_number-in-Wed.ensures.put })

pub returns-in-Parted : goal.returns-in-Parted
returns-in-Parted g c = rw c.in-Parted.is (record { replied = λ ok. number_replied _ _ _ _ _ _ _ (c.part.ensures.served ok) c.put_number-in-Parted.ensures.put })

pub returns-in-Dies : goal.returns-in-Dies
returns-in-Dies g c = rw c.in-Dies.is (record { replied = λ ok. number_replied _ _ _ _ _ _ _ (c.bury.ensures.served ok) c.put_number-in-Dies.ensures.put })
