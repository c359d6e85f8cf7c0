mod LimitLaws
